-- A row as a data file stores it, and as it is read at its position.
-- Iceberg spec, "Row Lineage"; "Column Projection".
use Rattle.std.specs.Prelude.{ℕ, ℤ, pos, ◌+ℤ◌, List, map, Option, Some, None, slice_get}
use Rattle.row_types.specs.declared.cell.Cell.{Cell}
use Rattle.row_types.specs.declared.cell.Cell.TheVariants as cells
use Rattle.row_types.specs.CellRef.{number_of}
use Rattle.row_types.specs.declared.column.Column.{Column}
use Rattle.row_types.specs.declared.row.Row.{Row}
use Rattle.row_types.specs.declared.row.StoredRow.{StoredRow}
use Rattle.schema_tree.specs.declared.schema.Field.{Field}
use Rattle.datum_tree.specs.declared.datum.Datum.{Datum}
use Rattle.avro_cells.specs.Value.{cell_of}
use Rattle.stored_rows.specs.Field.{Found, find, row_id_field, last_updated_field}

-- ---- the inheritance of lineage

-- the row's own id; else the file's first one plus the row's position, counted from 0 over all rows of the file;
-- none if the file has none
abbrev pub row_id_of : Option ℤ → Option ℤ → ℕ → Option ℤ
row_id_of first (Some stored) position = Some stored
row_id_of (Some first) None position = Some (first +ℤ pos position)
row_id_of None None position = None

-- the row's own last change, or the data sequence number of the file's entry
abbrev pub row_last_of : Option ℤ → ℤ → ℤ
row_last_of (Some stored) sequence = stored
row_last_of None sequence = sequence

-- the row that is read at a position
abbrev pub read_row : Option ℤ → ℤ → ℕ → StoredRow → Row
read_row first sequence position stored = record {
  id = row_id_of first stored.id position;
  last = row_last_of stored.last sequence;
  cells = stored.cells;
}

-- ---- from values to rows

-- the cell of a field that was found; null if there is none
abbrev pub cell_at : List Datum → Option Found → Cell
cell_at values None = cells.Null
cell_at values (Some found) = cell_of (slice_get values found.0)

-- the cell of the field with the id
abbrev pub cell_with : List Field → List Datum → ℤ → Cell
cell_with fields values id = cell_at values (find id fields)

-- the row that the values of a file's fields store, with a cell for each column
abbrev pub stored_row : List Column → List Field → List Datum → StoredRow
stored_row columns fields values = record {
  id = number_of (cell_with fields values row_id_field);
  last = number_of (cell_with fields values last_updated_field);
  cells = map (λ column. cell_with fields values column.id) columns;
}
