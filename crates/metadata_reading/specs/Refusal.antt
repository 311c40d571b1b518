-- Which refusal may come at any time, and the refusals of the parts as refusals of the metadata.
use Rattle.std.specs.Prelude.{Bool, true, false}
use Rattle.limits.specs.declared.which.Which.TheVariants as limit
use Rattle.json_members.specs.declared.fault.Fault.{Fault}
use Rattle.json_members.specs.declared.fault.Fault.TheVariants as fault
use Rattle.snapshot_entries.specs.declared.refusal.SnapshotRefusal.{SnapshotRefusal}
use Rattle.snapshot_entries.specs.declared.refusal.SnapshotRefusal.TheVariants as snapshots
use Rattle.schema_columns.specs.declared.refusal.ColumnRefusal.{ColumnRefusal}
use Rattle.schema_columns.specs.declared.refusal.ColumnRefusal.TheVariants as columns
use Rattle.metadata_reading.specs.declared.refusal.MetaRefusal.{MetaRefusal}
use Rattle.metadata_reading.specs.declared.refusal.MetaRefusal.TheVariants.{Missing, Wrong, ColumnType, NoManifestList}
use Rattle.metadata_reading.specs.declared.refusal.MetaRefusal.TheVariants.{Limit, Memory}
use Rattle.std.specs.Prelude.{codes}

-- memory ran out, which may happen at any time
abbrev pub is_memory : MetaRefusal → Bool
is_memory Memory = true
is_memory _ = false

-- the fault of a member
abbrev pub of_fault : Fault → MetaRefusal
of_fault (fault.Missing name) = Missing name
of_fault (fault.Wrong name) = Wrong name
of_fault fault.Memory = Memory

-- the refusal of the list of snapshots
abbrev pub of_snapshots : SnapshotRefusal → MetaRefusal
of_snapshots (snapshots.Missing name) = Missing name
of_snapshots (snapshots.Wrong name) = Wrong name
of_snapshots (snapshots.NoManifestList id) = NoManifestList id
of_snapshots (snapshots.Snapshots found) = Limit limit.Snapshots found
of_snapshots (snapshots.Path found) = Limit limit.Path found
of_snapshots snapshots.Memory = Memory

-- the refusal of the columns of the current schema
abbrev pub of_columns : ColumnRefusal → MetaRefusal
of_columns columns.Fields = Wrong (codes "fields")
of_columns (columns.ColumnType name) = ColumnType name
of_columns columns.Memory = Memory
