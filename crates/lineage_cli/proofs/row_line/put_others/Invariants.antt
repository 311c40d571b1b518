use Rattle.std.proofs.Common.{◌≡◌, ◌+◌, ◌≤◌, ◌++◌, length, map, take, drop}
use Rattle.std.specs.List.{flat_map}
use Rattle.row_pred.specs.Cells.{spaced_text}
use Rattle.row_types.specs.CellRef.{lent_cell}
use Rattle.lineage_cli.specs.RowLine.{most_cells}
use Rattle.lineage_cli.proofs.row_line.put_others.Given as goal

abbrev pub invariant-loop-cell : goal.invariant-loop-cell
invariant-loop-cell l = record {
  width : length l.room ≡ length l.fn.room;
  within : l.to + most_cells (map lent_cell (drop l.cell-index l.cells)) ≤ l.at + most_cells (map lent_cell l.cells);
  so_far : take l.to l.room ++ flat_map spaced_text (map lent_cell (drop l.cell-index l.cells)) ≡ take l.at l.fn.room ++ flat_map spaced_text (map lent_cell l.cells);
}
