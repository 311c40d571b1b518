use Rattle.std.proofs.Common.{◌≡◌, drop}
use Rattle.snapshot_entries.specs.Keys.{has_keys}
use Rattle.snapshot_entries.proofs.keys.has_keys.Given as goal

-- the others decide
abbrev pub invariant-loop-snapshot : goal.invariant-loop-snapshot
invariant-loop-snapshot l = has_keys (drop l.snapshot-index l.snapshots) ≡ has_keys l.snapshots
