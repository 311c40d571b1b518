-- The ids that an entry gives, by the next ids before and behind it.
use Rattle.std.proofs.Common.{◌≡◌, ◌==◌, ℤ, ◌<ℤ◌, ◌≤ℤ◌, int_lt, true, false, not, List, [], length, All, Option, Some}
use Rattle.std.proofs.Common.{None, is_some, refl, arith, eqb-true}
use Rattle.std.specs.Option.{is_none as is_absent}
use Rattle.std.specs.Map.{keys_of}
use Rattle.std.proofs.lemmas.Bool.{and_parts, not-false, not-true}
use Rattle.std.proofs.lemmas.Int.{ints}
use Rattle.std.proofs.lemmas.List.{nil_from_length}
use Rattle.std.proofs.lemmas.List.Elements.{All-weaker}
use Rattle.row_types.specs.declared.cell.Cell.{Cell}
use Rattle.history_types.specs.declared.entry.Entry.{Entry}
use Rattle.history_types.specs.declared.state.State.{State}
use Rattle.lineage_model.specs.Ids.{ids_of, is_rising}
use Rattle.lineage_model.specs.Rows.{under}
use Rattle.lineage_model.specs.Step.{are_fresh, ids_given_by, rows_after}
use Rattle.lineage_model.specs.History.{IsBelow}
use Rattle.lineage_model.proofs.Cases.{HasNext}
use Rattle.lineage_model.proofs.Distinct.{All-first, All-second}
use Rattle.lineage_model.proofs.RowLemmas.{All-under, All-with_rows}
use Rattle.lineage_model.proofs.Rules.{all_between}

-- ids from an old next id on and below a new one, which is not below the old; without an old one there are none
abbrev pub LeadTo : Option ℤ → Option ℤ → List ℤ → Type 0
LeadTo None high ids = ids ≡ []
LeadTo (Some low) None ids = ⊥
LeadTo (Some low) (Some high) ids = (is_rising ids ≡ true) × All (λ id. (low ≤ℤ id) × (id <ℤ high)) ids × (low ≤ℤ high)

-- the ids are to be as many as none
none_wanted : (ids : List ℤ) → not (length ids == 0) ≡ false → ids ≡ []
none_wanted ids test = nil_from_length ids (eqb-true _ _ (not-false _ test))

-- an entry that is to give no ids gives none
pub none_given : (entry : Entry) → not (length (ids_of entry.named) == 0) ≡ false → not (length (ids_of entry.given) == 0) ≡ false → ids_given_by entry ≡ []
none_given entry named given = rw (none_wanted (ids_of entry.named) named, none_wanted (ids_of entry.given) given) refl

-- a next id that is not there
pub none_there : (next : Option ℤ) → is_some next ≡ false → next ≡ None
none_there None test = refl
none_there (Some next) test = absurd (grind arith)

-- the test of fresh ids
pub lead_from_test : (low : ℤ) (next : Option ℤ) (ids : List ℤ) → is_absent next ≡ false → not (are_fresh (Some low) next ids) ≡ false → LeadTo (Some low) next ids
lead_from_test low None ids there test = absurd (grind arith)
lead_from_test low (Some high) ids there test =
    let parts = and_parts _ _ (not-false _ test) in
    let rising = and_parts _ _ parts.0 in
    let above : int_lt high low ≡ false = not-true _ parts.1 in
    (rising.0, all_between low high ids rising.1, omega (arith, ints))

-- no next id is that of version 2
pub has_none : (next : Option ℤ) → next ≡ None → HasNext 2 next
has_none next none = rw none refl

-- ids that lead on from a next id lead to one
pub has_some : (low : ℤ) (next : Option ℤ) (ids : List ℤ) → LeadTo (Some low) next ids → HasNext 3 next
has_some low None ids lead = absurd lead
has_some low (Some high) ids lead = refl

-- no id is below no next id, so what is below it is below each
pub below_none : (next : Option ℤ) (ids : List ℤ) → All (IsBelow None) ids → All (IsBelow next) ids
below_none next ids none = All-weaker (IsBelow None) (IsBelow next) (λ id below. absurd below) ids none

-- behind an entry of version 3 that changes and removes no row, each id is below the new next one
pub rows_below : (low : ℤ) (next : Option ℤ) (state : State) (entry : Entry) (adds : List (List Cell)) → LeadTo (Some low) next (ids_given_by entry) → All (IsBelow (Some low)) (keys_of state.rows)
    → All (IsBelow next) (keys_of (rows_after state entry (record { adds = adds; changes = []; removes = [] })))
rows_below low None state entry adds lead below = absurd lead
rows_below low (Some high) state entry adds lead below =
    let P = λ (id : ℤ). id <ℤ high in
    let old : All P (keys_of state.rows) = All-weaker (λ id. id <ℤ low) P (λ id under_low. omega (arith, ints, lead.2)) (keys_of state.rows) below in
    let ids : All P (ids_given_by entry) = All-weaker (λ id. (low ≤ℤ id) × (id <ℤ high)) P (λ id both. both.1) (ids_given_by entry) lead.1 in
    let named = All-first P (ids_of entry.named) (ids_of entry.given) ids in
    let given = All-second P (ids_of entry.named) (ids_of entry.given) ids in
    All-with_rows P _ (under (ids_of entry.given) _) (All-with_rows P state.rows (under (ids_of entry.named) _) old (All-under P (ids_of entry.named) _ named)) (All-under P (ids_of entry.given) _ given)
