-- The value of a row that is written has no items of arrays and maps.
use Rattle.std.proofs.Common.{◌≡◌, ℕ, ◌+◌, Bool, true, false, List, [], ◌∷◌, ◌++◌, ap₂, ◌∙◌}
use Rattle.std.specs.Prelude.{ℤ, Option, None, Some, if◌then◌else◌}
use Rattle.row_types.specs.declared.cell.Cell.{Cell}
use Rattle.row_types.specs.declared.cell.Cell.TheVariants as cells
use Rattle.row_types.specs.declared.column.Column.{Column}
use Rattle.row_types.specs.declared.row.StoredRow.{StoredRow}
use Rattle.datum_tree.specs.declared.datum.Datum.{Datum}
use Rattle.datum_tree.specs.Value.{items_in}
use Rattle.datum_tree.specs.Counts.{counts-Null, counts-Flag, counts-Num, counts-Raw, counts-Str, counts-Branch}
use Rattle.datum_tree.specs.Counts.{counts-Rec}
use Rattle.datum_tree.specs.Sums.{each, each_nil, each_cons}
use Rattle.row_writing.specs.Writing.{cell_datum, optional_datum, cell_data, number_datum, lineage_data, row_datum}

-- a value of a cell has no items of arrays and maps
no_items_in_cell : (cell : Cell) → items_in (cell_datum cell) ≡ 0
no_items_in_cell cells.Null = counts-Null
no_items_in_cell (cells.Flag flag) = counts-Flag flag
no_items_in_cell (cells.Num number) = counts-Num number
no_items_in_cell (cells.Text text) = counts-Str text
no_items_in_cell (cells.Bytes bytes) = counts-Raw bytes

-- nor has that of a cell where null may stand
no_items_beside_null : (cell : Cell) → items_in (optional_datum cell) ≡ 0
no_items_beside_null cells.Null = counts-Branch 0 (cell_datum cells.Null) ∙ no_items_in_cell cells.Null
no_items_beside_null (cells.Flag flag) = counts-Branch 1 (cell_datum (cells.Flag flag)) ∙ no_items_in_cell (cells.Flag flag)
no_items_beside_null (cells.Num number) = counts-Branch 1 (cell_datum (cells.Num number)) ∙ no_items_in_cell (cells.Num number)
no_items_beside_null (cells.Text text) = counts-Branch 1 (cell_datum (cells.Text text)) ∙ no_items_in_cell (cells.Text text)
no_items_beside_null (cells.Bytes bytes) = counts-Branch 1 (cell_datum (cells.Bytes bytes)) ∙ no_items_in_cell (cells.Bytes bytes)

-- nor that of a cell in a column
no_items_in_column : (required : Bool) (cell : Cell) → items_in (if required then cell_datum cell else optional_datum cell) ≡ 0
no_items_in_column true cell = no_items_in_cell cell
no_items_in_column false cell = no_items_beside_null cell

-- nor that of a number that may be absent
no_items_in_number : (number : Option ℤ) → items_in (number_datum number) ≡ 0
no_items_in_number None = no_items_beside_null cells.Null
no_items_in_number (Some number) = no_items_beside_null (cells.Num number)

-- nor have those of a row
no_items_in_row : (columns : List Column) (row : List Cell) (values : List Datum) → each items_in values ≡ 0 → each items_in (cell_data columns row ++ values) ≡ 0
no_items_in_row [] row values none = none
no_items_in_row (column ∷ columns) [] values none = none
no_items_in_row (column ∷ columns) (cell ∷ row) values none =
    each_cons items_in (if column.required then cell_datum cell else optional_datum cell) (cell_data columns row ++ values)
    ∙ ap₂ (λ (n m : ℕ). n + m) (no_items_in_column column.required cell) (no_items_in_row columns row values none)

-- nor those of its lineage
no_items_in_lineage : (lineage : Bool) (row : StoredRow) → each items_in (lineage_data lineage row) ≡ 0
no_items_in_lineage false row = each_nil items_in
no_items_in_lineage true row =
    let last : each items_in (number_datum row.last ∷ []) ≡ 0 = each_cons items_in (number_datum row.last) [] ∙ ap₂ (λ (n m : ℕ). n + m) (no_items_in_number row.last) (each_nil items_in) in
    each_cons items_in (number_datum row.id) (number_datum row.last ∷ []) ∙ ap₂ (λ (n m : ℕ). n + m) (no_items_in_number row.id) last

-- nor has the row's
pub no_items : (columns : List Column) (lineage : Bool) (row : StoredRow) → items_in (row_datum columns lineage row) ≡ 0
no_items columns lineage row =
    counts-Rec (cell_data columns row.cells ++ lineage_data lineage row)
    ∙ no_items_in_row columns row.cells (lineage_data lineage row) (no_items_in_lineage lineage row)
