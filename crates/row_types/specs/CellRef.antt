-- A cell that borrows its text or its bytes.
use Rattle.std.specs.Prelude.{ℤ, Bool, true, false, Option, Some, None}
use Rattle.row_types.specs.declared.cell.Cell.{Cell}
use Rattle.row_types.specs.declared.cell.Cell.TheVariants as cells
use Rattle.row_types.specs.declared.cell_ref.CellRef.{CellRef}
use Rattle.row_types.specs.declared.cell_ref.CellRef.TheVariants as refs

-- the cell that is borrowed
abbrev pub lent_cell : CellRef → Cell
lent_cell refs.Null = cells.Null
lent_cell (refs.Flag flag) = cells.Flag flag
lent_cell (refs.Num number) = cells.Num number
lent_cell (refs.Text text) = cells.Text text.now
lent_cell (refs.Bytes bytes) = cells.Bytes bytes.now

-- the cell is null
abbrev pub is_null : Cell → Bool
is_null cells.Null = true
is_null _ = false

-- the number of a cell; none if the cell has none
abbrev pub number_of : Cell → Option ℤ
number_of (cells.Num number) = Some number
number_of _ = None
