-- The tests of the next id and of the ids.
use Rattle.std.proofs.Common.{◌≡◌, ℕ, ℤ, pos, ◌<ℤ◌, ◌≤ℤ◌, true, List, [], ◌∷◌, All, Option, Some, None, refl, sym}
use Rattle.std.proofs.Common.{◌∙◌, arith}
use Rattle.std.specs.List.{list_all}
use Rattle.std.specs.Map.{keys_of}
use Rattle.std.proofs.lemmas.Bool.{and_parts, and_from, true_from_ne_false}
use Rattle.std.proofs.lemmas.Int.{ints}
use Rattle.std.proofs.lemmas.List.Elements.{All-nil, All-head, All-weaker}
use Rattle.std.proofs.lemmas.List.Folds.{list_all-map}
use Rattle.std.proofs.lemmas.List.Sums.{list_all-from_AllPass}
use Rattle.row_types.specs.RowMap.{NamedRow}
use Rattle.lineage_model.specs.Opening.{is_between, has_right_next, has_right_ids}
use Rattle.lineage_model.specs.History.{IsBelow}
use Rattle.lineage_model.proofs.Cases.{HasNext}
use Rattle.lineage_model.proofs.LastChanges.{FromZero, from_not_below, not_below}
use Rattle.lineage_model.proofs.Rules.{all_between}

-- the next id is from 0 on, where there is one
abbrev pub HasFirst : Option ℤ → Type 0
HasFirst None = Unit {0}
HasFirst (Some next) = FromZero next

-- the test of the next id
pub first_from_test : (version : ℕ) (next : Option ℤ) → has_right_next version next ≡ true → HasFirst next
first_from_test version None test = tt
first_from_test version (Some next) test = from_not_below (pos 0) next (and_parts _ _ test).1

-- it holds of a right one
pub test_from_first : (version : ℕ) (next : Option ℤ) → HasNext version next → HasFirst next → has_right_next version next ≡ true
test_from_first version None is first = rw is refl
test_from_first version (Some next) is first = rw is (not_below (pos 0) next first)

-- the test of the ids
pub ids_from_test : (next : Option ℤ) (rows : List NamedRow) → has_right_ids next rows ≡ true → All FromZero (keys_of rows)
ids_from_test None [] test = All-nil FromZero
ids_from_test None (row ∷ rows) test = absurd (grind arith)
ids_from_test (Some next) rows test =
    let as_keys : list_all (is_between (pos 0) next) (keys_of rows) ≡ true = list_all-map (is_between (pos 0) next) (λ (row : NamedRow). row.0) rows ∙ test in
    All-weaker (λ id. (pos 0 ≤ℤ id) × (id <ℤ next)) FromZero (λ id both. both.0) (keys_of rows) (all_between (pos 0) next (keys_of rows) as_keys)

-- an id from 0 on and below the next one passes
passes_between : (next id : ℤ) → FromZero id → id <ℤ next → is_between (pos 0) next id ≡ true
passes_between next id from below = and_from _ _ (not_below (pos 0) id from) (true_from_ne_false _ (λ not_lower. absurd (omega (arith, ints))))

-- so do all of them
pub test_from_ids : (next : Option ℤ) (rows : List NamedRow) → All (IsBelow next) (keys_of rows) → All FromZero (keys_of rows) → has_right_ids next rows ≡ true
test_from_ids None [] below from = refl
test_from_ids None (row ∷ rows) below from = absurd (All-head (IsBelow None) row.0 (keys_of rows) below)
test_from_ids (Some next) rows below from =
    sym (list_all-map (is_between (pos 0) next) (λ (row : NamedRow). row.0) rows)
    ∙ list_all-from_AllPass (is_between (pos 0) next) (keys_of rows) (λ k d within. passes_between next _ (from k d within) (below k d within))
