use Rattle.std.proofs.Common.{◌≡◌, ◌+◌, map, drop}
use Rattle.row_types.specs.CellRef.{lent_cell}
use Rattle.lineage_cli.specs.RowLine.{most_cells, most_line}
use Rattle.lineage_cli.proofs.row_line.line_fits.Given as goal

abbrev pub invariant-loop-cell : goal.invariant-loop-cell
invariant-loop-cell l = record {
  so_far : most_line (map lent_cell l.cells) + l.left ≡ l.room + most_cells (map lent_cell (drop l.cell-index l.cells));
}
