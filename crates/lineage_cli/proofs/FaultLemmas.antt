-- A run that doesn't end by a fault left the counts of failed calls as they were.
use Rattle.std.proofs.Common.{◌≡◌, ℕ, ◌⊎◌, List, Some, Result, Ok, Err, refl, ap, ◌∙◌, inl, inr}
use Rattle.lt_port.specs.Streams.{Incoming, Outgoing, Counts, counts_after}
use Rattle.lt_port.specs.declared.failure.PortError.TheVariants.{Memory as Wanted}
use Rattle.lineage_cli.specs.declared.ending.Ending.{Ending}
use Rattle.lineage_cli.specs.declared.ending.Ending.TheVariants.{Usage, InputFault, InputLimit, Input, Table, Illegal}
use Rattle.lineage_cli.specs.declared.ending.Ending.TheVariants.{OutFault, Memory}
use Rattle.lineage_cli.specs.Ending.{class_of, status_of}
use Rattle.lineage_cli.specs.Leaves.{Leaves, ended_class}
use Rattle.lineage_cli.specs.Outside.{Outside}
use Rattle.lineage_cli.specs.Run.{IsEnded, IsRun}

-- no call on the input or the output failed
abbrev AreKept : Outside → Outside → Type 0
AreKept before after =
    (after.input.faults ≡ before.input.faults) × (after.output.counts.faults ≡ before.output.counts.faults)

faults_of : (a b : Outgoing) → a ≡ b → a.counts.faults ≡ b.counts.faults
faults_of a b same = ap (λ (o : Outgoing). o.counts.faults) same

-- an ending by no fault
no_fault : (ending : Ending) (before after : Outside) → Leaves (Some (class_of ending)) before after
    → (status_of ending ≡ 5 → ⊥) → AreKept before after
no_fault Usage before after leaves other =
    (ap (λ (i : Incoming). i.faults) leaves.input, faults_of after.output before.output leaves.output)
no_fault InputFault before after leaves other = absurd (other refl)
no_fault (InputLimit found) before after leaves other =
    (leaves.input, faults_of after.output before.output leaves.output)
no_fault (Input line) before after leaves other = (leaves.input, faults_of after.output before.output leaves.output)
no_fault (Table refusal) before after leaves other = (leaves.input, faults_of after.output before.output leaves.output)
no_fault (Illegal entry rule) before after leaves other =
    (leaves.input, faults_of after.output before.output leaves.output)
no_fault OutFault before after leaves other = absurd (other refl)
no_fault Memory before after leaves other = (leaves.input, by_output leaves.output)
  where
    by_output : (after.output ≡ before.output)
        ⊎ (after.output.counts ≡ counts_after {A = Unit {0}} (Err Wanted) before.output.counts)
        → after.output.counts.faults ≡ before.output.counts.faults
    by_output (inl same) = faults_of after.output before.output same
    by_output (inr counted) = ap (λ (c : Counts). c.faults) counted

-- the run, after its line was told
fault_free : (ended : Result (Unit {0}) Ending) (before served after : Outside) (status : ℕ)
    → Leaves (ended_class ended) before served → IsEnded ended served after status → (status ≡ 5 → ⊥)
    → AreKept before after
fault_free (Ok done) before served after status leaves told other = (
  ap (λ (o : Outside). o.input.faults) told.1 ∙ leaves.input,
  ap (λ (o : Outside). o.output.counts.faults) told.1 ∙ ap (λ (c : Counts). c.faults) leaves.output,
)
fault_free (Err ending) before served after status leaves told other =
    let kept = no_fault ending before served leaves (λ five. other (told.0 ∙ five)) in
    (ap (λ (i : Incoming). i.faults) told.1 ∙ kept.0, faults_of after.output served.output told.2 ∙ kept.1)

pub other_status : (words : List (List ℕ)) (before after : Outside) (status : ℕ) → IsRun words before after status
    → (status ≡ 5 → ⊥) → AreKept before after
other_status words before after status run other =
    fault_free run.ended before run.served after status run.serves.leaves run.tells other
