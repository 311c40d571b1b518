-- Which refusal may come at any time, and the fault of a member as a refusal.
use Rattle.std.specs.Prelude.{Bool, true, false}
use Rattle.json_members.specs.declared.fault.Fault.{Fault}
use Rattle.json_members.specs.declared.fault.Fault.TheVariants as fault
use Rattle.snapshot_entries.specs.declared.refusal.SnapshotRefusal.{SnapshotRefusal}
use Rattle.snapshot_entries.specs.declared.refusal.SnapshotRefusal.TheVariants.{Missing, Wrong, Memory}

-- memory ran out, which may happen at any time
abbrev pub is_memory : SnapshotRefusal → Bool
is_memory Memory = true
is_memory _ = false

-- the fault of a member
abbrev pub of_fault : Fault → SnapshotRefusal
of_fault (fault.Missing name) = Missing name
of_fault (fault.Wrong name) = Wrong name
of_fault fault.Memory = Memory
