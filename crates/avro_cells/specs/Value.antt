-- The cell that a value is.
use Rattle.std.specs.Prelude.{List, [], Option, Some, None}
use Rattle.row_types.specs.declared.cell.Cell.{Cell}
use Rattle.row_types.specs.declared.cell.Cell.TheVariants as cells
use Rattle.datum_tree.specs.declared.datum.Datum.{Datum, out-Datum}
use Rattle.datum_tree.specs.declared.datum.Datum.TheOpen as kinds
use Rattle.datum_tree.specs.Value.{Level}

-- the cell that a value of an allowed type is
abbrev pub plain_cell : Level → Cell
plain_cell (kinds.Flag flag) = cells.Flag flag
plain_cell (kinds.Num number) = cells.Num number
plain_cell (kinds.Str text) = cells.Text text
plain_cell (kinds.Raw bytes) = cells.Bytes bytes
plain_cell _ = cells.Null

-- the same, where null may stand beside the type
abbrev pub cell_of_level : Level → Cell
cell_of_level (kinds.Branch place inside) = plain_cell (out-Datum inside)
cell_of_level level = plain_cell level

abbrev pub cell_of : Option Datum → Cell
cell_of None = cells.Null
cell_of (Some value) = cell_of_level (out-Datum value)

-- the values of a record's fields; of another value there are none
abbrev pub values_of_level : Level → List Datum
values_of_level (kinds.Rec values) = values
values_of_level _ = []

abbrev pub values_of : Datum → List Datum
values_of datum = values_of_level (out-Datum datum)
