use Rattle.std.proofs.Common.{◌≡◌, ◌++◌, ◌-◌, length, drop}
use Rattle.lineage_model.specs.Ids.{ids_from, how_many, ids_of}
use Rattle.history_log.proofs.ids.Ids.next.Given as goal

abbrev pub invariant-loop-self : goal.invariant-loop-self
invariant-loop-self l = ids_from l.self-inside.next (how_many l.self-inside.left) ++ ids_of (drop l.self-inside.place l.self-inside.runs.now) ≡ l.fn.self

abbrev pub decreases-loop-self : goal.decreases-loop-self
decreases-loop-self l = length l.self-inside.runs.now - l.self-inside.place
