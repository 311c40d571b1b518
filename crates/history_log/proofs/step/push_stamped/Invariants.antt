use Rattle.std.proofs.Common.{◌≡◌, ◌++◌, map, take}
use Rattle.lineage_model.specs.Rows.{stamped}
use Rattle.history_log.proofs.step.push_stamped.Given as goal

abbrev pub invariant-loop-cells : goal.invariant-loop-cells
invariant-loop-cells l = l.rows ≡ l.fn.rows ++ map (stamped l.seq) (take l.cells-index l.adds)
