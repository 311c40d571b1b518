use Rattle.std.proofs.Common.{◌≡◌, drop, map}
use Rattle.std.specs.List.{flat_map}
use Rattle.row_pred.specs.Cells.{spaced_text}
use Rattle.row_types.specs.CellRef.{lent_cell}
use Rattle.lineage_cli.proofs.PrintLemmas.{IsBegun}
use Rattle.lineage_cli.proofs.printing.put_others.Given as goal

abbrev pub invariant-loop-cell : goal.invariant-loop-cell
invariant-loop-cell g l = record {
  begun : IsBegun (g.W.Sink.seen l.initial.out).written l.initial.buffer (g.W.Sink.seen l.out).written l.buffer (flat_map spaced_text (map lent_cell (drop l.cell-index l.cells))) (flat_map spaced_text (map lent_cell l.cells));
  counted : (g.W.Sink.seen l.out).counts ≡ (g.W.Sink.seen l.initial.out).counts;
}
