-- What an audit has found behind the entries that it took.
use Rattle.std.specs.Prelude.{ℕ, ◌+◌, Option, Some, None, Result, Ok, Err, if◌then◌else◌}
use Rattle.history_types.specs.declared.entry.Entry.{Entry}
use Rattle.history_types.specs.declared.state.State.{State}
use Rattle.lineage_model.specs.declared.rule.Rule.{Rule}
use Rattle.lineage_model.specs.declared.rule.Rule.TheVariants as rules
use Rattle.lineage_model.specs.declared.tally.Tally.{Tally}
use Rattle.lineage_model.specs.Opening.{is_opening}
use Rattle.lineage_model.specs.History.{Fault}
use Rattle.lineage_model.specs.Tally.{tally_of, rule_broken, counted}
use Rattle.history_log.specs.declared.auditor.Audit.{Audit}
use Rattle.history_log.specs.declared.auditor.Audit.TheVariants.{Legal, Illegal}

-- the audit of so many entries: the numbers of the state behind them, or the first fault
abbrev pub audit_of : ℕ → Result State Fault → Audit
audit_of entries (Ok state) = Legal entries (tally_of state)
audit_of entries (Err fault) = Illegal fault.entry fault.rule

-- ---- entry by entry, by the numbers alone

-- before the first one
abbrev pub audit_begun : State → Audit
audit_begun start = if is_opening start then Legal 0 (tally_of start) else Illegal 0 rules.Start

-- behind an entry that breaks this rule, or none
abbrev pub audit_behind : ℕ → Tally → Entry → Option Rule → Audit
audit_behind entries tally entry None = Legal (entries + 1) (counted tally entry)
audit_behind entries tally entry (Some rule) = Illegal (entries + 1) rule

-- behind one entry more: the first fault stands
abbrev pub audit_more : Audit → Entry → Audit
audit_more (Legal entries tally) entry = audit_behind entries tally entry (rule_broken tally entry)
audit_more (Illegal place rule) entry = Illegal place rule
