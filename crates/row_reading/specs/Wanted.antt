-- The fields that a reader of rows wants of a record: those of lineage, and then one for each column.
-- Iceberg spec, "Column Projection"; "Reserved Field IDs".
use Rattle.std.specs.Prelude.{ℤ, false, List, ◌∷◌, map, drop, get_or, None}
use Rattle.row_types.specs.declared.cell.Cell.{Cell}
use Rattle.row_types.specs.declared.cell.Cell.TheVariants as cells
use Rattle.row_types.specs.CellRef.{number_of}
use Rattle.row_types.specs.declared.column.Column.{Column}
use Rattle.row_types.specs.declared.column.Kind.TheVariants as kinds
use Rattle.row_types.specs.declared.row.StoredRow.{StoredRow}
use Rattle.schema_tree.specs.declared.schema.Schema.{Schema}
use Rattle.objects.specs.Object.{Reader}
use Rattle.fields.specs.declared.wanted.Wanted.{Wanted}
use Rattle.fields.specs.declared.refusal.FieldRefusal.{FieldRefusal}
use Rattle.fields.specs.declared.refusal.FieldRefusal.TheVariants as fields
use Rattle.stored_rows.specs.declared.refusal.RowRefusal.{RowRefusal}
use Rattle.stored_rows.specs.declared.refusal.RowRefusal.TheVariants.{Kind, Datum, Memory}
use Rattle.records.specs.Record.{value_at}
use Rattle.stored_rows.specs.Field.{row_id_field, last_updated_field}

-- a field of longs, which may be missing
abbrev pub number_wanted : ℤ → Wanted
number_wanted id = record { parent = None; id = id; kind = kinds.Long; required = false }

-- the field of a column
abbrev pub column_wanted : Column → Wanted
column_wanted column = record { parent = None; id = column.id; kind = column.kind; required = column.required }

-- all that is wanted of a record
abbrev pub row_wanted : List Column → List Wanted
row_wanted columns =
    number_wanted row_id_field ∷ number_wanted last_updated_field ∷ map column_wanted columns

-- the row that these cells make: the id, the last change, and then a cell for each column
abbrev pub row_of_cells : List Cell → StoredRow
row_of_cells cs = record {
  id = number_of (get_or cs 0 cells.Null);
  last = number_of (get_or cs 1 cells.Null);
  cells = drop 2 cs;
}

-- a refusal of a record, as one of the row: a null in a required field is of a wrong kind
abbrev pub field_refusal : FieldRefusal → RowRefusal
field_refusal (fields.MissingField id) = Kind id
field_refusal (fields.NoValue refusal) = Datum refusal
field_refusal fields.Memory = Memory

-- the row of the record at a place, and the place after it
abbrev pub row_in_record : Schema → List Wanted → Reader StoredRow RowRefusal
row_in_record schema wanted = value_at row_of_cells field_refusal schema wanted
