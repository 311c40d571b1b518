-- An audit that takes the entries one by one, and the audit of all of them.
use Rattle.std.proofs.Common.{◌≡◌, ℕ, suc, ◌+◌, true, false, List, [], ◌∷◌, length, refl, sym}
use Rattle.std.proofs.Common.{ap, ◌∙◌, Result, Ok, Err, arith}
use Rattle.std.specs.Prelude.{if◌then◌else◌, Bool}
use Rattle.std.specs.declared.option.Option.{Option}
use Rattle.std.specs.declared.option.Option.TheVariants.{None, Some}
use Rattle.std.specs.List.{fold}
use Rattle.words.specs.Reading.{◌>>=◌}
use Rattle.history_types.specs.declared.entry.Entry.{Entry}
use Rattle.history_types.specs.declared.state.State.{State}
use Rattle.lineage_model.specs.declared.rule.Rule.{Rule}
use Rattle.lineage_model.specs.declared.rule.Rule.TheVariants as rules
use Rattle.lineage_model.specs.declared.tally.Tally.{Tally}
use Rattle.lineage_model.specs.Opening.{is_opening}
use Rattle.lineage_model.specs.Step.{broken_rule, applied}
use Rattle.lineage_model.specs.History.{Fault, stepped, audited_from, audited}
use Rattle.lineage_model.specs.Tally.{tally_of, rule_broken, counted}
use Rattle.history_log.specs.declared.auditor.Audit.{Audit}
use Rattle.history_log.specs.declared.auditor.Audit.TheVariants.{Legal, Illegal}
use Rattle.history_log.specs.Auditing.{audit_of, audit_begun, audit_behind, audit_more}

-- what the model tells of the numbers of a state
pub record NumbersSay : Type 0 where
  pub rules : (state : State) (entry : Entry) → rule_broken (tally_of state) entry ≡ broken_rule state entry
  pub counted : (state : State) (entry : Entry) → is_opening state ≡ true → broken_rule state entry ≡ None → tally_of (applied state entry) ≡ counted (tally_of state) entry
  pub opening : (state : State) (entry : Entry) → is_opening state ≡ true → broken_rule state entry ≡ None → is_opening (applied state entry) ≡ true

-- the first fault stands
stands : (place : ℕ) (rule : Rule) (entries : List Entry) → fold audit_more (Illegal place rule) entries ≡ Illegal place rule
stands place rule [] = refl
stands place rule (entry ∷ entries) = stands place rule entries

-- from a state on
agrees_from : (say : NumbersSay) (place : ℕ) (state : State) (entries : List Entry) → is_opening state ≡ true
    → fold audit_more (Legal place (tally_of state)) entries ≡ audit_of (place + length entries) (audited_from (place + 1) state entries)
unfolding audited_from
agrees_from say place state [] opening =
    let size : place ≡ place + 0 = omega arith in
    ap (λ n. Legal n (tally_of state)) size
agrees_from say place state (entry ∷ entries) opening = by_rule (broken_rule state entry) refl (agrees_from say (place + 1) (applied state entry) entries)
  where
    by_rule : (rule : Option Rule) → broken_rule state entry ≡ rule
        → (is_opening (applied state entry) ≡ true → fold audit_more (Legal (place + 1) (tally_of (applied state entry))) entries ≡ audit_of (place + 1 + length entries) (audited_from (place + 1 + 1) (applied state entry) entries))
        → fold audit_more (audit_behind place (tally_of state) entry (rule_broken (tally_of state) entry)) entries
        ≡ audit_of (place + suc (length entries)) (stepped (place + 1) state entry (broken_rule state entry) >>= λ after. audited_from (place + 1 + 1) after entries)
    by_rule None legal later =
        let next = later (say.opening state entry opening legal) in
        let size : place + 1 + length entries ≡ place + suc (length entries) = omega arith in
        rw (say.rules state entry, legal, sym (say.counted state entry opening legal)) (next ∙ ap (λ n. audit_of n (audited_from (place + 1 + 1) (applied state entry) entries)) size)
    by_rule (Some rule) broken later =
        rw (say.rules state entry, broken) (stands (place + 1) rule entries)

-- from the state at the start
pub audit_is : (say : NumbersSay) (start : State) (entries : List Entry) → fold audit_more (audit_begun start) entries ≡ audit_of (length entries) (audited start entries)
unfolding audited
audit_is say start entries = by_test (is_opening start) refl
  where
    by_test : (test : Bool) → is_opening start ≡ test
        → fold audit_more (if is_opening start then Legal 0 (tally_of start) else Illegal 0 rules.Start) entries
        ≡ audit_of (length entries) (if is_opening start then audited_from 1 start entries else Err (record { entry = 0; rule = rules.Start }))
    by_test true opens =
        let size : 0 + length entries ≡ length entries = omega arith in
        rw opens (agrees_from say 0 start entries opens ∙ ap (λ n. audit_of n (audited_from 1 start entries)) size)
    by_test false shut = rw shut (stands 0 rules.Start entries)
