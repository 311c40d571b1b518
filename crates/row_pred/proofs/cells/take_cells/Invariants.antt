use Rattle.std.proofs.Common.{◌≡◌, ◌≤◌, length, drop}
use Rattle.row_pred.specs.Cells.{cells_from, cells_at}
use Rattle.row_pred.proofs.cells.take_cells.Given as goal

abbrev pub invariant-loop-column : goal.invariant-loop-column
invariant-loop-column l = record {
  start : l.place ≤ l.at;
  within : l.at ≤ length l.text;
  so_far : cells_from l.cells.items (drop l.column-index l.columns) l.text l.at ≡ cells_at l.columns l.text l.place;
}
