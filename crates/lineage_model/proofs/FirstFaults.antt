-- An audit finds a fault just where it is the first one.
use Rattle.std.proofs.Common.{◌≡◌, ◌⊎◌, ◌↔◌, inl, inr, ℕ, suc, ◌+◌, Bool, true, false, List, [], ◌∷◌, ◌++◌, length, Option, Some, None}
use Rattle.std.proofs.Common.{Result, Err, refl, sym, ap, ◌∙◌, arith}
use Rattle.words.specs.Reading.{◌>>=◌}
use Rattle.history_types.specs.declared.entry.Entry.{Entry}
use Rattle.history_types.specs.declared.state.State.{State}
use Rattle.lineage_model.specs.declared.rule.Rule.{Rule}
use Rattle.lineage_model.specs.declared.rule.Rule.TheVariants as rules
use Rattle.lineage_model.specs.Opening.{is_opening}
use Rattle.lineage_model.specs.Step.{broken_rule, applied}
use Rattle.lineage_model.specs.History.{AreLegal, state_after, Fault, IsFirstFault, stepped, audited_from, audited}
use Rattle.lineage_model.proofs.Audited.{fault_of, audited_if}

-- the first fault among entries, of which the first one is at this place
record FaultFrom (place : ℕ) (state : State) (entries : List Entry) (fault : Fault) : Type 0 where
  before : List Entry
  entry : Entry
  others : List Entry
  parts : entries ≡ before ++ entry ∷ others
  here : fault.entry ≡ place + length before
  legal : AreLegal state before
  rule : broken_rule (state_after state before) entry ≡ Some fault.rule

-- an audit stopped at this step, or went on from it and stopped later
abbrev StopsAt : ℕ → Option Rule → Result State Fault → Fault → Type 0
StopsAt place rule rest fault = ((fault.entry ≡ place) × (rule ≡ Some fault.rule)) ⊎ ((rule ≡ None) × (rest ≡ Err fault))

stops_at : (place : ℕ) (state : State) (entry : Entry) (rule : Option Rule) (rest : State → Result State Fault) (fault : Fault) → (stepped place state entry rule >>= rest) ≡ Err fault → StopsAt place rule (rest (applied state entry)) fault
stops_at place state entry None rest fault found = inr (refl, found)
stops_at place state entry (Some rule) rest fault found =
    let same : fault_of place rule ≡ fault = cc in
    inl (sym (ap (λ (f : Fault). f.entry) same), ap (λ (f : Fault). Some f.rule) same)

-- so the first fault is at this entry, or among those behind it
fault_at : (place : ℕ) (state : State) (entry : Entry) (entries : List Entry) (fault : Fault) → StopsAt place (broken_rule state entry) (audited_from (place + 1) (applied state entry) entries) fault
    → (audited_from (place + 1) (applied state entry) entries ≡ Err fault → FaultFrom (place + 1) (applied state entry) entries fault) → FaultFrom place state (entry ∷ entries) fault
unfolding AreLegal state_after
fault_at place state entry entries fault (inl stop) later =
    let size : place ≡ place + 0 = omega arith in
    record { before = []; entry = entry; others = entries; parts = refl; here = stop.0 ∙ size; legal = tt; rule = stop.1 }
fault_at place state entry entries fault (inr on) later =
    let from = later on.1 in
    let size : place + 1 + length from.before ≡ place + suc (length from.before) = omega arith in
    record {
      before = entry ∷ from.before;
      entry = from.entry;
      others = from.others;
      parts = ap (λ (es : List Entry). entry ∷ es) from.parts;
      here = from.here ∙ size;
      legal = (on.0, from.legal);
      rule = from.rule;
    }

fault_from : (place : ℕ) (state : State) (entries : List Entry) (fault : Fault) → audited_from place state entries ≡ Err fault → FaultFrom place state entries fault
unfolding audited_from
fault_from place state [] fault found = absurd cc
fault_from place state (entry ∷ entries) fault found =
    fault_at place state entry entries fault (stops_at place state entry (broken_rule state entry) (λ after. audited_from (place + 1) after entries) fault found)
    (fault_from (place + 1) (applied state entry) entries fault)

-- an audit stops at an entry that breaks a rule behind legal ones
stops : (before : List Entry) (place : ℕ) (state : State) (entry : Entry) (others : List Entry) (rule : Rule) → AreLegal state before → broken_rule (state_after state before) entry ≡ Some rule
    → audited_from place state (before ++ entry ∷ others) ≡ Err (fault_of (place + length before) rule)
unfolding audited_from AreLegal state_after
stops [] place state entry others rule legal broken =
    let size : place ≡ place + 0 = omega arith in
    rw broken (ap (λ (n : ℕ). Err (fault_of n rule)) size)
stops (first ∷ before) place state entry others rule legal broken =
    let size : place + 1 + length before ≡ place + suc (length before) = omega arith in
    rw legal.0 (stops before (place + 1) (applied state first) entry others rule legal.1 broken ∙ ap (λ (n : ℕ). Err (fault_of n rule)) size)

-- an audit that found a fault found that a history may not begin with the start, or stopped at an entry
start_or_entry : (start : State) (entries : List Entry) (opening : Bool) (fault : Fault) → audited_if start entries opening ≡ Err fault
    → ((opening ≡ false) × (fault_of 0 rules.Start ≡ fault)) ⊎ ((opening ≡ true) × (audited_from 1 start entries ≡ Err fault))
start_or_entry start entries true fault found = inr (refl, found)
start_or_entry start entries false fault found =
    let same : fault_of 0 rules.Start ≡ fault = cc in
    inl (refl, same)

first_fault : (start : State) (entries : List Entry) (fault : Fault)
    → ((is_opening start ≡ false) × (fault_of 0 rules.Start ≡ fault)) ⊎ ((is_opening start ≡ true) × (audited_from 1 start entries ≡ Err fault)) → IsFirstFault start entries fault
first_fault start entries fault (inl shut) =
    inl (record { opening = shut.0; entry = sym (ap (λ (f : Fault). f.entry) shut.1); rule = sym (ap (λ (f : Fault). f.rule) shut.1) })
first_fault start entries fault (inr open_at) =
    let from = fault_from 1 start entries fault open_at.1 in
    let size : 1 + length from.before ≡ length from.before + 1 = omega arith in
    inr (record {
      before = from.before;
      entry = from.entry;
      others = from.others;
      parts = from.parts;
      place = from.here ∙ size;
      state = state_after start from.before;
      history = record { opening = open_at.0; legal = from.legal; state = refl };
      rule = from.rule;
    })

fault_found : (start : State) (entries : List Entry) (fault : Fault) → audited start entries ≡ Err fault → IsFirstFault start entries fault
unfolding audited
fault_found start entries fault found = first_fault start entries fault (start_or_entry start entries (is_opening start) fault found)

-- faults of the same entry and the same rule
same_fault : (a b : Fault) → a.entry ≡ b.entry → a.rule ≡ b.rule → a ≡ b
same_fault a b entry rule = ap (λ (n : ℕ). fault_of n a.rule) entry ∙ ap (fault_of b.entry) rule

fault_only : (start : State) (entries : List Entry) (fault : Fault) → IsFirstFault start entries fault → audited start entries ≡ Err fault
unfolding audited
fault_only start entries fault (inl shut) =
    ap (audited_if start entries) shut.opening ∙ ap Err (same_fault (fault_of 0 rules.Start) fault (sym shut.entry) (sym shut.rule))
fault_only start entries fault (inr breaks) =
    let broken = sym (ap (λ (state : State). broken_rule state breaks.entry) breaks.history.state) ∙ breaks.rule in
    let size : 1 + length breaks.before ≡ length breaks.before + 1 = omega arith in
    ap (audited_if start entries) breaks.history.opening
    ∙ (ap (audited_from 1 start) breaks.parts
    ∙ (stops breaks.before 1 start breaks.entry breaks.others fault.rule breaks.history.legal broken
    ∙ ap Err (same_fault (fault_of (1 + length breaks.before) fault.rule) fault (size ∙ sym breaks.place) refl)))

pub finds_faults : (start : State) (entries : List Entry) (fault : Fault) → (audited start entries ≡ Err fault) ↔ IsFirstFault start entries fault
finds_faults start entries fault = (fault_found start entries fault, fault_only start entries fault)
