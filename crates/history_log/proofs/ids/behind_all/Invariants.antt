use Rattle.std.proofs.Common.{◌≡◌, ◌++◌, ℤ, pos, ◌<ℤ◌, ◌^◌, List, drop}
use Rattle.lineage_model.specs.Ids.{ids_of}
use Rattle.history_log.specs.Ids.{rise_within}
use Rattle.history_log.proofs.ids.behind_all.Given as goal

abbrev pub invariant-loop-run : goal.invariant-loop-run
invariant-loop-run l = (high : ℤ) (rest : List ℤ) → high <ℤ pos (2 ^ 63) → rise_within l.fn.low high (ids_of l.runs ++ rest) ≡ rise_within l.floor high (ids_of (drop l.run-index l.runs) ++ rest)
