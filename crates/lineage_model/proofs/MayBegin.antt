-- States that a history may begin with, by what the test looks at.
use Rattle.std.proofs.Common.{◌≡◌, ◌==◌, ℕ, ℤ, true, ◌||◌, All, Option, Some, None, refl, sym, ◌∙◌, pos}
use Rattle.std.specs.Map.{keys_of, values_of}
use Rattle.std.proofs.lemmas.Bool.{and_parts, and_from}
use Rattle.history_types.specs.declared.state.State.{State}
use Rattle.lineage_model.specs.Opening.{is_empty, is_opening}
use Rattle.lineage_model.proofs.Cases.{HasNext}
use Rattle.lineage_model.proofs.FirstIds.{HasFirst, first_from_test, test_from_first, ids_from_test, test_from_ids}
use Rattle.lineage_model.proofs.LastChanges.{FromZero, IsLast, from_not_below, not_below, lasts_from_test}
use Rattle.lineage_model.proofs.LastChanges.{test_from_lasts, lasts_as_values}
use Rattle.lineage_model.proofs.Right.{IsRight, right_opening}

-- a right state that a history may begin with
pub record MayBegin (state : State) : Type 0 where
  pub right : IsRight state
  pub next : HasFirst state.next
  pub seq : FromZero state.seq
  pub ids : All FromZero (keys_of state.rows)
  pub lasts : All (IsLast state.seq) (values_of state.rows)
  pub unnamed : All (IsLast state.seq) state.unnamed
  pub one_kind : (is_empty state.rows || is_empty state.unnamed) ≡ true

-- what passes the test
pub may_from_test : (state : State) → is_opening state ≡ true → MayBegin state
may_from_test state opening =
    let empty = and_parts _ _ opening in
    let unnamed = and_parts _ _ empty.0 in
    let lasts = and_parts _ _ unnamed.0 in
    let ids = and_parts _ _ lasts.0 in
    let seq = and_parts _ _ ids.0 in
    let next = and_parts _ _ seq.0 in
    record {
      right = right_opening state opening;
      next = first_from_test state.version state.next next.1;
      seq = from_not_below (pos 0) state.seq seq.1;
      ids = ids_from_test state.next state.rows ids.1;
      lasts = lasts_from_test state.seq (values_of state.rows) (lasts_as_values state.seq state.rows ∙ lasts.1);
      unnamed = lasts_from_test state.seq state.unnamed unnamed.1;
      one_kind = empty.1;
    }

-- the versions of such states
version_test : (version : ℕ) (next : Option ℤ) → HasNext version next → (version == 2 || version == 3) ≡ true
version_test version None is = rw is refl
version_test version (Some next) is = rw is refl

-- it passes
pub test_from_may : (state : State) → MayBegin state → is_opening state ≡ true
test_from_may state may =
    let version = version_test state.version state.next may.right.next in
    let next = test_from_first state.version state.next may.right.next may.next in
    let seq = not_below (pos 0) state.seq may.seq in
    let ids = test_from_ids state.next state.rows may.right.below may.ids in
    let lasts = sym (lasts_as_values state.seq state.rows) ∙ test_from_lasts state.seq (values_of state.rows) may.lasts in
    let unnamed = test_from_lasts state.seq state.unnamed may.unnamed in
    and_from _ _ (and_from _ _ (and_from _ _ (and_from _ _ (and_from _ _ (and_from _ _ version next) seq) ids) lasts) unnamed) may.one_kind
