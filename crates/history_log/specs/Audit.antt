-- What an audit answers.
use Rattle.std.specs.Prelude.{List, Result}
use Rattle.words.specs.Reading.{map_refusal}
use Rattle.history_types.specs.declared.entry.Entry.{Entry}
use Rattle.history_types.specs.declared.state.State.{State}
use Rattle.lineage_model.specs.History.{Fault, audited}
use Rattle.history_log.specs.declared.refusal.HistoryRefusal.{HistoryRefusal}
use Rattle.history_log.specs.declared.refusal.HistoryRefusal.TheVariants.{Illegal}

-- a fault as the audit names it
abbrev pub illegal : Fault → HistoryRefusal
illegal fault = Illegal fault.entry fault.rule

-- the state after all entries, or the first entry and the first rule that it breaks
abbrev pub verdict : State → List Entry → Result State HistoryRefusal
verdict start entries = map_refusal illegal (audited start entries)
