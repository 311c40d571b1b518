-- The columns of a data file, by its own schema.
-- Iceberg spec, "Appendix A: Format-specific Requirements", "Avro"; "Reserved Field IDs".
use Rattle.std.specs.Prelude.{ℕ, ℤ, pos, int_lt, Bool, not, List, [], ◌∷◌, ◌++◌, length, Option, Some, None, Result}
use Rattle.std.specs.Prelude.{Ok, Err, nat_lt, ◌||◌, if◌then◌else◌}
use Rattle.words.specs.Reading.{◌>>=◌, map_value}
use Rattle.row_types.specs.declared.column.Column.{Column}
use Rattle.row_types.specs.declared.column.Kind.{Kind}
use Rattle.row_types.specs.Columns.{first_fault, has_wrong_id, has_wrong_name, most_columns}
use Rattle.schema_tree.specs.declared.schema.Field.{Field, out-Field}
use Rattle.schema_tree.specs.declared.schema.Schema.{Schema, out-Schema}
use Rattle.stored_rows.specs.declared.refusal.RowRefusal.{RowRefusal}
use Rattle.stored_rows.specs.declared.refusal.RowRefusal.TheVariants.{Kind as WrongKind}
use Rattle.avro_cells.specs.Kind.{Nullable, nullable, kind_of}
use Rattle.fields.specs.Wanted.{fields_of}
use Rattle.row_reading.specs.File.{Opened, opened}

-- the ids from this one on are the standard's own
abbrev pub first_reserved_id : ℤ
first_reserved_id = pos 2147483448

-- the column of a field with an id, whose type holds cells of a kind
abbrev pub column_of_kind : ℤ → List ℕ → Bool → Option Kind → Result Column RowRefusal
column_of_kind id name required None = Err (WrongKind id)
column_of_kind id name required (Some kind) = Ok (record { id = id; name = name; kind = kind; required = required })

-- the column of a field with an id; where null may stand it is not required
abbrev pub column_of_type : ℤ → List ℕ → Option Nullable → Result Column RowRefusal
column_of_type id name None = Err (WrongKind id)
column_of_type id name (Some found) = column_of_kind id name (not found.has_null) (kind_of (out-Schema found.type))

-- the columns before a field, and its own; a field of a reserved id is none, and each other field has an id
abbrev pub with_field : List Column → Field → Option ℤ → Result (List Column) RowRefusal
with_field before field None = Err (WrongKind (pos 0))
with_field before field (Some id) =
    if int_lt id first_reserved_id
    then map_value (λ column. before ++ column ∷ [])
    (column_of_type id (out-Field field).name (nullable (out-Field field).schema))
    else Ok before

-- the columns of fields, after those before them
unfoldable pub columns_from : List Column → List Field → Result (List Column) RowRefusal
columns_from before [] = Ok before
columns_from before (field ∷ fields) =
    with_field before field (out-Field field).id >>= λ columns. columns_from columns fields

-- a column at fault is refused
abbrev pub no_fault : Option Column → Result (Unit {0}) RowRefusal
no_fault None = Ok tt
no_fault (Some column) = Err (WrongKind column.id)

-- the columns are those of a table: their number, their ids and then their names
unfoldable pub checked : List Column → Result (List Column) RowRefusal
checked columns =
    if nat_lt (length columns) 1 || nat_lt most_columns (length columns) then Err (WrongKind (pos 0))
    else (do
      _ ← no_fault (first_fault has_wrong_id [] columns)
      _ ← no_fault (first_fault has_wrong_name [] columns)
      Ok columns)

-- the columns of a schema
abbrev pub schema_columns : Schema → Result (List Column) RowRefusal
schema_columns schema = columns_from [] (fields_of schema) >>= checked

-- the columns of a file that was opened
unfoldable pub columns_in : Opened → Result (List Column) RowRefusal
columns_in (container, schema) = schema_columns schema

-- the columns of a file
unfoldable pub file_columns_of : List ℕ → Result (List Column) RowRefusal
file_columns_of bytes = opened bytes >>= columns_in
