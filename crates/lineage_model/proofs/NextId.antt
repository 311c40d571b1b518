-- The next id does not fall.
use Rattle.std.proofs.Common.{◌≡◌, ℕ, ℤ, ◌≤ℤ◌, List, [], ◌∷◌, Option, Some, None, refl, arith}
use Rattle.std.proofs.lemmas.Int.{ints}
use Rattle.history_types.specs.declared.entry.Entry.{Entry}
use Rattle.history_types.specs.declared.state.State.{State}
use Rattle.lineage_model.specs.Step.{applied, ids_given_by}
use Rattle.lineage_model.specs.History.{DidNotFall, IsHistory, AreLegal, state_after}
use Rattle.lineage_model.proofs.Cases.{HasNext}
use Rattle.lineage_model.proofs.Leads.{LeadTo}
use Rattle.lineage_model.proofs.Right.{IsRight}
use Rattle.lineage_model.proofs.Step.{step, right_after, right_at_end}

-- a next id is followed by one that is not below it
abbrev Rises : Option ℤ → Option ℤ → Type 0
Rises None now = Unit {0}
Rises (Some before) None = ⊥
Rises (Some before) (Some now) = before ≤ℤ now

-- over an entry
rises_over : (before after : Option ℤ) (ids : List ℤ) → LeadTo before after ids → Rises before after
rises_over None after ids lead = tt
rises_over (Some low) None ids lead = lead
rises_over (Some low) (Some high) ids lead = lead.2

-- over one entry and then others
rises_on : (a b c : Option ℤ) → Rises a b → Rises b c → Rises a c
rises_on None b c first second = tt
rises_on (Some x) None c first second = absurd first
rises_on (Some x) (Some y) None first second = second
rises_on (Some x) (Some y) (Some z) first second = omega (arith, ints)

-- it does not fall from itself
rises_from : (next : Option ℤ) → Rises next next
rises_from None = tt
rises_from (Some id) = omega (arith, ints)

-- over all entries
rises_over_all : (state : State) (entries : List Entry) → IsRight state → AreLegal state entries → Rises state.next (state_after state entries).next
unfolding AreLegal state_after
rises_over_all state [] right legal = rises_from state.next
rises_over_all state (entry ∷ entries) right legal =
    let leads = step state entry right legal.0 in
    rises_on state.next (applied state entry).next (state_after (applied state entry) entries).next
    (rises_over state.next (applied state entry).next (ids_given_by entry) leads.ids) (rises_over_all (applied state entry) entries leads.right legal.1)

-- in one version it does not fall
not_fallen : (version : ℕ) (before now : Option ℤ) → HasNext version before → HasNext version now → Rises before now → DidNotFall before now
not_fallen version None None two three rises = refl
not_fallen version None (Some now) two three rises = absurd (omega arith)
not_fallen version (Some before) None two three rises = rises
not_fallen version (Some before) (Some now) two three rises = rises

-- from one point of a history to a later one of the same version
pub next_stays : (start : State) (earlier : List Entry) (middle : State) (later : List Entry) (end : State) → IsHistory start earlier middle → AreLegal middle later → end ≡ state_after middle later
    → end.version ≡ middle.version → DidNotFall middle.next end.next
next_stays start earlier middle later end history legal state version =
    let right = right_at_end start earlier middle history in
    let last : IsRight end = rw state (right_after middle later right legal) in
    let rises : Rises middle.next end.next = rw state (rises_over_all middle later right legal) in
    not_fallen middle.version middle.next end.next right.next (rw version at last.next) rises
