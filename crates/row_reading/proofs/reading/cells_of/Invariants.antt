use Rattle.std.proofs.Common.{◌≡◌, map, take}
use Rattle.row_types.specs.CellRef.{lent_cell}
use Rattle.row_reading.proofs.reading.cells_of.Given as goal

abbrev pub invariant-loop-cell : goal.invariant-loop-cell
invariant-loop-cell l = l.cells ≡ map lent_cell (take l.cell-index l.lent)
