use Rattle.std.proofs.Common.{◌-◌, length}
use Rattle.row_writing.proofs.RowBytesLemmas.{CellsArePut}
use Rattle.row_writing.proofs.row_bytes.put_cells.Given as goal

abbrev pub invariant-loop-place : goal.invariant-loop-place
invariant-loop-place l = CellsArePut l.columns l.cells l.place l.fn.out.items l.out.items

abbrev pub decreases-loop-place : goal.decreases-loop-place
decreases-loop-place l = length l.columns - l.place
