-- An audit finds a state just at the end of a legal history.
use Rattle.std.proofs.Common.{◌≡◌, ◌↔◌, ℕ, ◌+◌, Bool, true, false, List, [], ◌∷◌, Option, Some, None, Result, Ok, Err, refl, sym, ap, ◌∙◌}
use Rattle.std.specs.Prelude.{if◌then◌else◌}
use Rattle.words.specs.Reading.{◌>>=◌}
use Rattle.history_types.specs.declared.entry.Entry.{Entry}
use Rattle.history_types.specs.declared.state.State.{State}
use Rattle.lineage_model.specs.declared.rule.Rule.{Rule}
use Rattle.lineage_model.specs.declared.rule.Rule.TheVariants as rules
use Rattle.lineage_model.specs.Opening.{is_opening}
use Rattle.lineage_model.specs.Step.{broken_rule, applied}
use Rattle.lineage_model.specs.History.{IsHistory, AreLegal, state_after, Fault, stepped, audited_from, audited}

-- the fault of an entry and a rule
abbrev pub fault_of : ℕ → Rule → Fault
fault_of entry rule = record { entry = entry; rule = rule }

-- an audit, by whether a history may begin with the start
abbrev pub audited_if : State → List Entry → Bool → Result State Fault
audited_if start entries opening = if opening then audited_from 1 start entries else Err (fault_of 0 rules.Start)

-- a step from which an audit went on is legal
legal_step : (place : ℕ) (state : State) (entry : Entry) (rule : Option Rule) (rest : State → Result State Fault) (end : State) → (stepped place state entry rule >>= rest) ≡ Ok end → (rule ≡ None) × (rest (applied state entry) ≡ Ok end)
legal_step place state entry None rest end found = (refl, found)
legal_step place state entry (Some rule) rest end found = absurd cc

-- entries that an audit passed are legal, and it found the state after them
legal_from : (place : ℕ) (state : State) (entries : List Entry) (end : State) → audited_from place state entries ≡ Ok end → AreLegal state entries × (end ≡ state_after state entries)
unfolding audited_from AreLegal state_after
legal_from place state [] end found =
    let same : state ≡ end = cc in
    (tt, sym same)
legal_from place state (entry ∷ entries) end found =
    let step = legal_step place state entry (broken_rule state entry) (λ after. audited_from (place + 1) after entries) end found in
    let later = legal_from (place + 1) (applied state entry) entries end step.1 in
    ((step.0, later.0), later.1)

-- an audit passes legal entries
passes : (place : ℕ) (state : State) (entries : List Entry) → AreLegal state entries → audited_from place state entries ≡ Ok (state_after state entries)
unfolding audited_from AreLegal state_after
passes place state [] legal = refl
passes place state (entry ∷ entries) legal = rw legal.0 (passes (place + 1) (applied state entry) entries legal.1)

-- an audit that found a state found that a history may begin with the start
opened : (start : State) (entries : List Entry) (opening : Bool) (end : State) → audited_if start entries opening ≡ Ok end → (opening ≡ true) × (audited_from 1 start entries ≡ Ok end)
opened start entries true end found = (refl, found)
opened start entries false end found = absurd cc

history_found : (start : State) (entries : List Entry) (end : State) → audited start entries ≡ Ok end → IsHistory start entries end
unfolding audited
history_found start entries end found =
    let parts = opened start entries (is_opening start) end found in
    let legal = legal_from 1 start entries end parts.1 in
    record { opening = parts.0; legal = legal.0; state = legal.1 }

history_only : (start : State) (entries : List Entry) (end : State) → IsHistory start entries end → audited start entries ≡ Ok end
unfolding audited
history_only start entries end history =
    ap (audited_if start entries) history.opening ∙ (passes 1 start entries history.legal ∙ ap Ok (sym history.state))

pub finds_histories : (start : State) (entries : List Entry) (end : State) → (audited start entries ≡ Ok end) ↔ IsHistory start entries end
finds_histories start entries end = (history_found start entries end, history_only start entries end)
