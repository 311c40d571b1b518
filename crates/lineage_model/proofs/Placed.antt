-- What stands at the ids of rows that come to a table.
use Rattle.std.proofs.Common.{◌≡◌, ◌≢◌, ℕ, zero, suc, ℤ, true, false, List, [], ◌∷◌, All, AllPairs, Some, Ordering}
use Rattle.std.proofs.Common.{Less, Equal, Greater, int_cmp, refl, sym, ◌∙◌}
use Rattle.std.specs.List.{slice_get}
use Rattle.std.specs.Ordering.{match_ordering}
use Rattle.std.specs.BTreeMap.{is_at}
use Rattle.std.proofs.lemmas.Bool.Decides.{Decides-int_eq}
use Rattle.std.proofs.lemmas.Map.Entries.{lookup_head, lookup_tail}
use Rattle.std.proofs.lemmas.Option.{none-some, same_Some}
use Rattle.row_types.specs.RowMap.{NamedRow, UnnamedRow, row_at, with_row}
use Rattle.lineage_model.specs.Rows.{under, with_rows}
use Rattle.lineage_model.proofs.Pairs.{first_differs, rest_differ}
use Rattle.lineage_model.proofs.RowLemmas.{All-under, row_at-with_rows}

-- a row stands at its id
at_own_id : (rows : List NamedRow) (id : ℤ) (row : UnnamedRow) → row_at (with_row rows id row) id ≡ Some row
at_own_id [] id row = lookup_head (is_at (int_cmp id)) (id, row) [] ((Decides-int_eq id id).1 refl)
at_own_id (first ∷ rows) id row = at_place (int_cmp id first.0) refl (at_own_id rows id row)
  where
    at_place : (place : Ordering) → int_cmp id first.0 ≡ place → row_at (with_row rows id row) id ≡ Some row
        → row_at (match_ordering place ((id, row) ∷ first ∷ rows) ((first.0, row) ∷ rows) (first ∷ with_row rows id row)) id ≡ Some row
    at_place Less is later = lookup_head (is_at (int_cmp id)) (id, row) (first ∷ rows) ((Decides-int_eq id id).1 refl)
    at_place Equal is later =
        let here : is_at (int_cmp id) first.0 ≡ true = rw is refl in
        lookup_head (is_at (int_cmp id)) (first.0, row) rows here
    at_place Greater is later =
        let over : is_at (int_cmp id) first.0 ≡ false = rw is refl in
        lookup_tail (is_at (int_cmp id)) first (with_row rows id row) over ∙ later

-- of rows that come at ids that differ, each stands at its id
pub row_at-under : (rows : List NamedRow) (ids : List ℤ) (new : List UnnamedRow) (i : ℕ) (id : ℤ) (row : UnnamedRow) → AllPairs (λ a b. a ≢ b) ids → slice_get ids i ≡ Some id → slice_get new i ≡ Some row
    → row_at (with_rows rows (under ids new)) id ≡ Some row
row_at-under rows [] new i id row differ has_id has_row = absurd (none-some id has_id)
row_at-under rows (first ∷ ids) [] i id row differ has_id has_row = absurd (none-some row has_row)
row_at-under rows (first ∷ ids) (head ∷ new) zero id row differ has_id has_row =
    let same : first ≡ id = same_Some first id has_id in
    let like : head ≡ row = same_Some head row has_row in
    let apart : All (λ other. id ≢ other) ids = rw (sym same) (first_differs first ids differ) in
    rw (same, like) (row_at-with_rows (with_row rows id row) (under ids new) id (All-under (λ other. id ≢ other) ids new apart) ∙ at_own_id rows id row)
row_at-under rows (first ∷ ids) (head ∷ new) (suc i) id row differ has_id has_row =
    row_at-under (with_row rows first head) ids new i id row (rest_differ first ids differ) has_id has_row
