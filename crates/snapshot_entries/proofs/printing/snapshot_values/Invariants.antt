use Rattle.std.proofs.Common.{◌≡◌, map, take}
use Rattle.serde_json.specs.View.{view}
use Rattle.snapshot_entries.specs.Printing.{snapshot_value}
use Rattle.snapshot_entries.proofs.printing.snapshot_values.Given as goal

-- the values so far
abbrev pub invariant-loop-snapshot : goal.invariant-loop-snapshot
invariant-loop-snapshot l = map view l.values.items ≡ map snapshot_value (take l.snapshot-index l.snapshots)
