-- What every run leaves of the outside, by the class of its ending, whatever its command.
use Rattle.std.specs.Prelude.{◌≡◌, ◌⊎◌, Option, Some, None, Result, Ok, Err}
use Rattle.lt_port.specs.Streams.{Incoming, Outgoing, one_more, counts_after}
use Rattle.lt_port.specs.declared.failure.PortError.TheVariants.{Failed, Memory}
use Rattle.lineage_cli.specs.declared.class.Class.{Class}
use Rattle.lineage_cli.specs.declared.class.Class.TheVariants as classes
use Rattle.lineage_cli.specs.declared.ending.Ending.{Ending}
use Rattle.lineage_cli.specs.Ending.{class_of}
use Rattle.lineage_cli.specs.Outside.{Outside}

-- the class of a run's ending, if it doesn't answer
abbrev pub ended_class : {A : Type 0} → Result A Ending → Option Class
ended_class (Ok value) = None
ended_class (Err ending) = Some (class_of ending)

-- the input: untouched if the words are no command; one call failed if the input failed, and otherwise none
abbrev pub LeavesInput : Option Class → Incoming → Incoming → Type 0
LeavesInput (Some classes.Usage) before after = after ≡ before
LeavesInput (Some classes.InputFault) before after = after.faults ≡ one_more before.faults
LeavesInput _ before after = after.faults ≡ before.faults

-- the output: untouched unless the run answered, or the output failed or wanted memory; then one call did so, and
-- otherwise none
abbrev pub LeavesOutput : Option Class → Outgoing → Outgoing → Type 0
LeavesOutput None before after = after.counts ≡ before.counts
LeavesOutput (Some classes.OutFault) before after =
    after.counts ≡ counts_after {A = Unit {0}} (Err Failed) before.counts
LeavesOutput (Some classes.Memory) before after =
    (after ≡ before) ⊎ (after.counts ≡ counts_after {A = Unit {0}} (Err Memory) before.counts)
LeavesOutput _ before after = after ≡ before

-- the outside: standard error is touched only after the command
pub record Leaves (class : Option Class) (before after : Outside) : Type 0 where
  pub input : LeavesInput class before.input after.input
  pub output : LeavesOutput class before.output after.output
  pub error : after.error ≡ before.error
