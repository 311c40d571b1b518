-- Rows that come to a table at new ids.
use Rattle.std.proofs.Common.{◌≡◌, ◌≢◌, ℤ, false, cond, List, [], ◌∷◌, All, Option, Some, Ordering, Less, Equal}
use Rattle.std.proofs.Common.{Greater, int_cmp, int_eq, refl, sym, ap, ◌∙◌}
use Rattle.std.specs.Ordering.{match_ordering}
use Rattle.std.specs.BTreeMap.{is_at}
use Rattle.std.specs.Map.{keys_of}
use Rattle.std.proofs.lemmas.Bool.{false_from_ne_true}
use Rattle.std.proofs.lemmas.Bool.Decides.{Decides-int_eq}
use Rattle.std.proofs.lemmas.Cmp.{int_ranked}
use Rattle.std.proofs.lemmas.List.Elements.{All-nil, All-cons, All-head, All-tail, All-contains}
use Rattle.std.proofs.lemmas.Map.Entries.{lookup_tail}
use Rattle.std.proofs.lemmas.Map.Views.{All-keys-insert_entry, Contains-keys_from_lookup}
use Rattle.row_types.specs.RowMap.{NamedRow, UnnamedRow, row_at, with_row}
use Rattle.lineage_model.specs.Rows.{under, with_rows}

-- what holds of each id of a table and of the rows that come to it holds of each id then
pub All-with_rows : (P : ℤ → Type 0) (rows more : List NamedRow) → All P (keys_of rows) → All P (keys_of more) → All P (keys_of (with_rows rows more))
All-with_rows P rows [] old new = old
All-with_rows P rows (row ∷ more) old new =
    All-with_rows P (with_row rows row.0 row.1) more (All-keys-insert_entry int_cmp row.0 row.1 P rows old (All-head P row.0 (keys_of more) new)) (All-tail P row.0 (keys_of more) new)

-- ids beside rows are some of the ids
pub All-under : (P : ℤ → Type 0) (ids : List ℤ) (rows : List UnnamedRow) → All P ids → All P (keys_of (under ids rows))
All-under P [] rows all = all
All-under P (id ∷ ids) [] all = All-nil P
All-under P (id ∷ ids) (row ∷ rows) all =
    All-cons P id (keys_of (under ids rows)) (All-head P id ids all) (All-under P ids rows (All-tail P id ids all))

-- a look-up passes over another id
passed_over : (id other : ℤ) → other ≢ id → is_at (int_cmp other) id ≡ false
passed_over id other differ = false_from_ne_true (int_eq other id) (λ same. differ ((Decides-int_eq other id).0 same))

-- a row at another id leaves what stands at this one
pub row_at-with_row : (rows : List NamedRow) (id other : ℤ) (row : UnnamedRow) → other ≢ id → row_at (with_row rows id row) other ≡ row_at rows other
row_at-with_row [] id other row differ = lookup_tail (is_at (int_cmp other)) (id, row) [] (passed_over id other differ)
row_at-with_row (first ∷ rows) id other row differ = at_place (int_cmp id first.0) refl (row_at-with_row rows id other row differ)
  where
    at_place : (place : Ordering) → int_cmp id first.0 ≡ place → row_at (with_row rows id row) other ≡ row_at rows other
        → row_at (match_ordering place ((id, row) ∷ first ∷ rows) ((first.0, row) ∷ rows) (first ∷ with_row rows id row)) other ≡ row_at (first ∷ rows) other
    at_place Less is later = lookup_tail (is_at (int_cmp other)) (id, row) (first ∷ rows) (passed_over id other differ)
    at_place Equal is later =
        let same : id ≡ first.0 = int_ranked id first.0 Equal (sym is) in
        let over : is_at (int_cmp other) first.0 ≡ false = passed_over first.0 other (λ e. differ (e ∙ sym same)) in
        lookup_tail (is_at (int_cmp other)) (first.0, row) rows over ∙ sym (lookup_tail (is_at (int_cmp other)) first rows over)
    at_place Greater is later = ap (λ (rest : Option UnnamedRow). cond (is_at (int_cmp other) first.0) (Some first.1) rest) later

-- rows at other ids leave what stands at this one
pub row_at-with_rows : (rows more : List NamedRow) (id : ℤ) → All (λ other. id ≢ other) (keys_of more) → row_at (with_rows rows more) id ≡ row_at rows id
row_at-with_rows rows [] id others = refl
row_at-with_rows rows (row ∷ more) id others =
    row_at-with_rows (with_row rows row.0 row.1) more id (All-tail (λ other. id ≢ other) row.0 (keys_of more) others)
    ∙ row_at-with_row rows row.0 id row.1 (All-head (λ other. id ≢ other) row.0 (keys_of more) others)

-- an id that has a row is one of the ids
pub All-row_at : (P : ℤ → Type 0) (rows : List NamedRow) (id : ℤ) (row : UnnamedRow) → All P (keys_of rows) → row_at rows id ≡ Some row → P id
All-row_at P rows id row all found =
    All-contains P (keys_of rows) id all (Contains-keys_from_lookup {eq = int_eq} (λ x y. (Decides-int_eq x y).0) id rows (rw found refl))

-- no ids beside no rows
pub under-nil : (ids : List ℤ) → under ids [] ≡ []
under-nil [] = refl
under-nil (id ∷ ids) = refl
