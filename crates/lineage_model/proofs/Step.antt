-- What a legal step gives, and that the state after it is right.
use Rattle.std.proofs.Common.{◌≡◌, ℤ, pos, List, [], ◌∷◌, All, Some, None, refl, true≢false}
use Rattle.std.specs.Map.{keys_of}
use Rattle.history_types.specs.declared.entry.Entry.{Entry}
use Rattle.history_types.specs.declared.state.State.{State}
use Rattle.lineage_model.specs.Step.{broken_rule, applied, ids_given_by}
use Rattle.lineage_model.specs.History.{IsBelow, IsHistory, AreLegal, state_after}
use Rattle.lineage_model.proofs.Cases.{by_request, by_version}
use Rattle.lineage_model.proofs.Leads.{LeadTo, none_given, none_there, lead_from_test, has_none, has_some, below_none}
use Rattle.lineage_model.proofs.Leads.{rows_below}
use Rattle.lineage_model.proofs.Right.{IsRight, right_opening}
use Rattle.lineage_model.proofs.Rules.{Kept, kept}

-- what an entry makes of a state
pub record Leads (before : State) (entry : Entry) (after : State) : Type 0 where
  pub right : IsRight after
  pub ids : LeadTo before.next after.next (ids_given_by entry)

-- an entry that keeps the rules makes a right state of a state whose ids are below the next one
abbrev StepsFrom : State → Entry → Type 0
StepsFrom state entry = All (IsBelow state.next) (keys_of state.rows) → Kept state entry → Leads state entry (applied state entry)

-- in version 2
from_two : (state : State) (entry : Entry) → StepsFrom (record state { version = 2; next = None }) entry
unfolding applied
from_two state = λ entry. by_request (StepsFrom (record state { version = 2; next = None })) entry
    (λ rows below kept.
    let none : entry.next ≡ None = none_there entry.next kept.next in
    record { right = record { next = has_none entry.next none; below = below_none entry.next (keys_of state.rows) below }; ids = none_given entry kept.named kept.given })
    (λ paths below kept. absurd (true≢false kept.version))
    (λ below kept. record { right = record { next = refl; below = below_none (Some (pos 0)) (keys_of state.rows) below }; ids = none_given entry kept.named kept.given })

-- in version 3
from_three : (state : State) (low : ℤ) (entry : Entry) → StepsFrom (record state { version = 3; next = Some low }) entry
unfolding applied
from_three state low = λ entry. by_request (StepsFrom (record state { version = 3; next = Some low })) entry
    (λ rows below kept.
    let lead = lead_from_test low entry.next (ids_given_by entry) kept.next kept.fresh in
    record { right = record { next = has_some low entry.next (ids_given_by entry) lead; below = rows_below low entry.next state entry rows lead below }; ids = lead })
    (λ paths below kept.
    let lead = lead_from_test low entry.next (ids_given_by entry) kept.next kept.fresh in
    record { right = record { next = has_some low entry.next (ids_given_by entry) lead; below = rows_below low entry.next state entry [] lead below }; ids = lead })
    (λ below kept. absurd (true≢false kept.version))

-- a legal entry makes a right state of a right one
pub step : (state : State) (entry : Entry) → IsRight state → broken_rule state entry ≡ None → Leads state entry (applied state entry)
step state entry right legal =
    by_version (λ s. StepsFrom s entry) state right.next (from_two state entry) (λ low. from_three state low entry) right.below (kept state entry legal)

-- so do legal entries
pub right_after : (state : State) (entries : List Entry) → IsRight state → AreLegal state entries → IsRight (state_after state entries)
unfolding AreLegal state_after
right_after state [] right legal = right
right_after state (entry ∷ entries) right legal = right_after (applied state entry) entries (step state entry right legal.0).right legal.1

-- the state at the end of a history
pub right_at_end : (start : State) (entries : List Entry) (end : State) → IsHistory start entries end → IsRight end
right_at_end start entries end history = rw history.state (right_after start entries (right_opening start history.opening) history.legal)
