use Rattle.std.proofs.Common.{◌≡◌, map, take}
use Rattle.metadata_changes.specs.Upgrade.{upgraded_snapshot}
use Rattle.metadata_changes.proofs.upgrade.changed_snapshots.Given as goal

-- the snapshots so far
abbrev pub invariant-loop-snapshot : goal.invariant-loop-snapshot
invariant-loop-snapshot l = l.after ≡ map upgraded_snapshot (take l.snapshot-index l.snapshots)
