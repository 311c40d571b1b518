use Rattle.std.proofs.Common.{◌≡◌, ◌+◌, drop}
use Rattle.lineage_model.specs.History.{audited_from}
use Rattle.history_log.proofs.history.audited_from.Given as goal

abbrev pub invariant-loop-place : goal.invariant-loop-place
invariant-loop-place l = audited_from (l.place + 1) l.state (drop l.place l.entries) ≡ audited_from 1 l.fn.start l.entries
