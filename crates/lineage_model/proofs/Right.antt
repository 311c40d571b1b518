-- States of a legal history.
use Rattle.std.proofs.Common.{◌≡◌, ℕ, ℤ, pos, ◌<ℤ◌, true, List, [], ◌∷◌, All, Option, Some, None, arith, eqb-true}
use Rattle.std.specs.Map.{keys_of}
use Rattle.std.proofs.lemmas.Bool.{and_parts}
use Rattle.std.proofs.lemmas.List.Elements.{All-nil, All-map, All-weaker}
use Rattle.std.proofs.lemmas.List.Sums.{AllPass-from_list_all}
use Rattle.row_types.specs.RowMap.{NamedRow}
use Rattle.history_types.specs.declared.state.State.{State}
use Rattle.lineage_model.specs.Opening.{is_between, has_right_next, has_right_ids, is_opening}
use Rattle.lineage_model.specs.History.{IsBelow}
use Rattle.lineage_model.proofs.Cases.{HasNext}
use Rattle.lineage_model.proofs.Rules.{between}

-- a state of a legal history: the next id is there exactly in version 3, and each id is below it
pub record IsRight (state : State) : Type 0 where
  pub next : HasNext state.version state.next
  pub below : All (IsBelow state.next) (keys_of state.rows)

-- the test of the next id
next_from_test : (version : ℕ) (next : Option ℤ) → has_right_next version next ≡ true → HasNext version next
next_from_test version None test = eqb-true version 2 test
next_from_test version (Some next) test = eqb-true version 3 (and_parts _ _ test).0

-- the test of the ids
below_from_test : (next : Option ℤ) (rows : List NamedRow) → has_right_ids next rows ≡ true → All (IsBelow next) (keys_of rows)
below_from_test None [] test = All-nil (IsBelow None)
below_from_test None (row ∷ rows) test = absurd (grind arith)
below_from_test (Some next) rows test =
    All-map (IsBelow (Some next)) (λ (row : NamedRow). row.0) rows
    (All-weaker (λ (row : NamedRow). is_between (pos 0) next row.0 ≡ true) (λ row. row.0 <ℤ next) (λ row passes. (between (pos 0) next row.0 passes).1) rows
    (AllPass-from_list_all (λ (row : NamedRow). is_between (pos 0) next row.0) rows test))

-- a state that a history may begin with
pub right_opening : (state : State) → is_opening state ≡ true → IsRight state
right_opening state opening =
    let empty = and_parts _ _ opening in
    let lasts = and_parts _ _ empty.0 in
    let changed = and_parts _ _ lasts.0 in
    let ids = and_parts _ _ changed.0 in
    let seq = and_parts _ _ ids.0 in
    let next = and_parts _ _ seq.0 in
    record {
      next = next_from_test state.version state.next next.1;
      below = below_from_test state.next state.rows ids.1;
    }
