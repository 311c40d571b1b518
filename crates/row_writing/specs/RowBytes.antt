-- The bytes that are put of a row, cell by cell: those of its value.
-- Avro 1.11, "Binary encoding": a value of a union comes after the place of its branch, which is a number.
use Rattle.std.specs.Prelude.{ℕ, ℤ, Bool, true, false, List, [], ◌∷◌, ◌++◌, Option, Some, None, if◌then◌else◌}
use Rattle.row_types.specs.declared.cell.Cell.{Cell}
use Rattle.row_types.specs.declared.cell.Cell.TheVariants as cells
use Rattle.row_types.specs.declared.column.Column.{Column}
use Rattle.row_types.specs.declared.row.StoredRow.{StoredRow}
use Rattle.avro_wire.specs.Writing.{number_text, bytes_text}
use Rattle.datum_tree.specs.Spelling.{flag_byte}

-- the bytes of a cell
abbrev pub cell_bytes : Cell → List ℕ
cell_bytes cells.Null = []
cell_bytes (cells.Flag flag) = flag_byte flag ∷ []
cell_bytes (cells.Num number) = number_text number
cell_bytes (cells.Text text) = bytes_text text
cell_bytes (cells.Bytes bytes) = bytes_text bytes

-- the place of the branch that a cell is of, as a number: 0 stands as 0, and 1 as 2
abbrev pub branch_byte : Cell → ℕ
branch_byte cells.Null = 0
branch_byte (cells.Flag flag) = 2
branch_byte (cells.Num number) = 2
branch_byte (cells.Text text) = 2
branch_byte (cells.Bytes bytes) = 2

-- the bytes of a cell of a column, which is required or not
abbrev pub column_bytes : Bool → Cell → List ℕ
column_bytes required cell = if required then cell_bytes cell else branch_byte cell ∷ cell_bytes cell

-- the bytes of a row's cells, one for each column
abbrev pub cells_bytes : List Column → List Cell → List ℕ
cells_bytes [] cells = []
cells_bytes (column ∷ columns) [] = []
cells_bytes (column ∷ columns) (cell ∷ cells) = column_bytes column.required cell ++ cells_bytes columns cells

-- the bytes of a number that may be absent
abbrev pub number_bytes : Option ℤ → List ℕ
number_bytes None = 0 ∷ []
number_bytes (Some number) = 2 ∷ number_text number

-- those of the row's id and of its last change, where they are written
abbrev pub lineage_bytes : Bool → StoredRow → List ℕ
lineage_bytes false row = []
lineage_bytes true row = number_bytes row.id ++ number_bytes row.last

-- the bytes of a row
abbrev pub row_bytes : List Column → Bool → StoredRow → List ℕ
row_bytes columns lineage row = cells_bytes columns row.cells ++ lineage_bytes lineage row
