-- Entries audited one by one, and what an answer of the audit says.
use Rattle.std.proofs.Common.{◌≡◌, ◌↔◌, ℕ, ◌+◌, ◌<◌, ◌≤◌, List, length, get_or, drop, Result, Ok, Err, sym, ap, subst, ◌∙◌}
use Rattle.std.specs.Prelude.{IfOk}
use Rattle.std.proofs.lemmas.List.{at_drop_more, at_drop_all}
use Rattle.words.specs.Reading.{◌>>=◌, map_refusal, Gives}
use Rattle.history_types.specs.declared.entry.Entry.{Entry}
use Rattle.history_types.specs.declared.state.State.{State}
use Rattle.lineage_model.specs.declared.rule.Rule.{Rule}
use Rattle.lineage_model.specs.Step.{broken_rule}
use Rattle.lineage_model.specs.History.{Fault, IsHistory, IsFirstFault, stepped, audited_from, audited}
use Rattle.history_log.specs.declared.refusal.HistoryRefusal.{HistoryRefusal}
use Rattle.history_log.specs.Audit.{illegal, verdict}
use Rattle.history_log.specs.Refusal.{is_memory}

-- what a step answers, as the audit names it
ok_step : (step : Result State Fault) (after : State) → map_refusal illegal step ≡ Ok after → step ≡ Ok after
ok_step (Ok state) after named = cc
ok_step (Err fault) after named = absurd cc

-- the audit from an entry on is that entry's step, and then the audit from the next one on
from_entry : (entries : List Entry) (place : ℕ) (entry : Entry) (state : State) → place < length entries → entry ≡ get_or entries place entry
    → audited_from (place + 1) state (drop place entries) ≡ (stepped (place + 1) state entry (broken_rule state entry) >>= λ after. audited_from (place + 1 + 1) after (drop (place + 1) entries))
unfolding audited_from
from_entry entries place entry state within here =
    at_drop_more (audited_from (place + 1) state) entries place entry within ∙ ap (λ (e : Entry). stepped (place + 1) state e (broken_rule state e) >>= λ after. audited_from (place + 1 + 1) after (drop (place + 1) entries)) (sym here)

-- a legal step
pub goes_on : (entries : List Entry) (place : ℕ) (entry : Entry) (state after : State) (total : Result State Fault) → place < length entries → entry ≡ get_or entries place entry
    → map_refusal illegal (stepped (place + 1) state entry (broken_rule state entry)) ≡ Ok after → audited_from (place + 1) state (drop place entries) ≡ total → audited_from (place + 1 + 1) after (drop (place + 1) entries) ≡ total
goes_on entries place entry state after total within here step so_far =
    let taken = ok_step _ after step in
    sym (ap (λ (r : Result State Fault). r >>= λ next. audited_from (place + 1 + 1) next (drop (place + 1) entries)) taken) ∙ (sym (from_entry entries place entry state within here) ∙ so_far)

-- a step that is none
err_behind : (step : Result State Fault) (rest : State → Result State Fault) (refusal : HistoryRefusal) → map_refusal illegal step ≡ Err refusal → map_refusal illegal (step >>= rest) ≡ Err refusal
err_behind (Ok state) rest refusal named = absurd cc
err_behind (Err fault) rest refusal named = named

pub fails : (entries : List Entry) (place : ℕ) (entry : Entry) (state : State) (total : Result State Fault) (refusal : HistoryRefusal) → place < length entries → entry ≡ get_or entries place entry
    → map_refusal illegal (stepped (place + 1) state entry (broken_rule state entry)) ≡ Err refusal → audited_from (place + 1) state (drop place entries) ≡ total → map_refusal illegal total ≡ Err refusal
fails entries place entry state total refusal within here step so_far =
    ap (map_refusal illegal) (sym so_far ∙ from_entry entries place entry state within here) ∙ err_behind _ (λ after. audited_from (place + 1 + 1) after (drop (place + 1) entries)) refusal step

-- behind the last entry
pub ends : (entries : List Entry) (place : ℕ) (state : State) (total : Result State Fault) → length entries ≤ place → audited_from (place + 1) state (drop place entries) ≡ total → map_refusal illegal total ≡ Ok state
unfolding audited_from
ends entries place state total past so_far = ap (map_refusal illegal) (sym so_far ∙ at_drop_all (audited_from (place + 1) state) entries place past)

-- ---- what an answer says, from what an audit finds

-- an answer is a state that the audit finds
pub answers_found : (result : Result State HistoryRefusal) (start : State) (entries : List Entry) → ((end : State) → (audited start entries ≡ Ok end) ↔ IsHistory start entries end)
    → Gives is_memory (λ (state : State). state) result (verdict start entries) → IfOk result (λ state. IsHistory start entries state)
answers_found (Ok state) start entries finds given = (finds state).0 (ok_step (audited start entries) state given)
answers_found (Err refusal) start entries finds given = tt

-- the fault of an entry and a rule
abbrev fault_of : ℕ → Rule → Fault
fault_of entry rule = record { entry = entry; rule = rule }

-- a refusal that names a fault is a fault that the audit finds
err_audit : (found : Result State Fault) (fault : Fault) → map_refusal illegal found ≡ Err (illegal fault) → found ≡ Err fault
err_audit (Ok state) fault named = absurd cc
err_audit (Err found) fault named =
    let entry : found.entry ≡ fault.entry = cc in
    let rule : found.rule ≡ fault.rule = cc in
    ap (λ (n : ℕ). Err (fault_of n found.rule)) entry ∙ ap (λ (r : Rule). Err (fault_of fault.entry r)) rule

pub faults_found : (result : Result State HistoryRefusal) (start : State) (entries : List Entry) → ((fault : Fault) → (audited start entries ≡ Err fault) ↔ IsFirstFault start entries fault)
    → Gives is_memory (λ (state : State). state) result (verdict start entries) → (fault : Fault) → result ≡ Err (illegal fault) → IsFirstFault start entries fault
faults_found result start entries finds given fault is =
    let named = subst (λ (r : Result State HistoryRefusal). Gives is_memory (λ (state : State). state) r (verdict start entries)) is given in
    (finds fault).0 (err_audit (audited start entries) fault named)

-- what the audit finds is answered
pub answered : (result : Result State HistoryRefusal) (start : State) (entries : List Entry) (found : Result State Fault) → audited start entries ≡ found
    → Gives is_memory (λ (state : State). state) result (verdict start entries) → Gives is_memory (λ (state : State). state) result (map_refusal illegal found)
answered result start entries found is given =
    subst (λ (read : Result State Fault). Gives is_memory (λ (state : State). state) result (map_refusal illegal read)) is given
