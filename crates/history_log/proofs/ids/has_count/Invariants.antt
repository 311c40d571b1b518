use Rattle.std.proofs.Common.{◌≡◌, ◌+◌, length, drop}
use Rattle.lineage_model.specs.Ids.{ids_of}
use Rattle.history_log.proofs.ids.has_count.Given as goal

abbrev pub invariant-loop-run : goal.invariant-loop-run
invariant-loop-run l = length (ids_of l.runs) + l.left ≡ l.count + length (ids_of (drop l.run-index l.runs))
