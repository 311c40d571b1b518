-- Which rows a data file stores, whatever reads it: the promise of a reader of rows.
-- Avro 1.11, "Object Container Files"; Iceberg spec, "Column Projection", "Row Lineage".
use Rattle.std.specs.Prelude.{◌≡◌, ℕ, ◌^◌, ◌-◌, ℤ, pos, ◌+ℤ◌, ◌≤ℤ◌, true, false, List, [], ◌∷◌}
use Rattle.std.specs.Prelude.{All, Option, Some, None, IfSome}
use Rattle.limits.specs.Limits.{FileSize, IsWithinLimits}
use Rattle.row_types.specs.declared.cell.Cell.{Cell}
use Rattle.row_types.specs.declared.column.Column.{Column}
use Rattle.row_types.specs.declared.column.Kind.TheVariants as kinds
use Rattle.row_types.specs.declared.row.Row.{Row}
use Rattle.row_types.specs.declared.row.StoredRow.{StoredRow}
use Rattle.schema_tree.specs.declared.schema.Schema.{Schema}
use Rattle.schema_tree.specs.declared.schema.Field.{Field}
use Rattle.avro_schema.specs.Meaning.{IsSchemaText}
use Rattle.datum_tree.specs.declared.datum.Datum.{Datum}
use Rattle.datum_tree.specs.Spelling.{IsEncoding}
use Rattle.avro_container.specs.declared.container.Container.{Container}
use Rattle.avro_container.specs.Header.{schema_key, bound_to}
use Rattle.avro_container.specs.Format.{IsContainer}
use Rattle.objects.specs.Held.{Hold}
use Rattle.avro_cells.specs.Kind.{is_allowed}
use Rattle.fields.specs.Wanted.{fields_of}
use Rattle.stored_rows.specs.Field.{Found, find, row_id_field, last_updated_field}
use Rattle.row_types.specs.CellRef.{is_null}
use Rattle.avro_cells.specs.Value.{values_of}
use Rattle.stored_rows.specs.Row.{stored_row}
use Rattle.stored_rows.specs.Rows.{rows_from}

-- ---- the columns

-- a field was found, or the column needs none
abbrev pub IsThere : Column → Option Found → Type 0
IsThere column None = column.required ≡ false
IsThere column (Some found) = is_allowed column.kind found.1 ≡ true

-- a field was found, of an allowed type
abbrev pub IsHeld : Column → Option Found → Type 0
IsHeld column None = ⊥
IsHeld column (Some found) = is_allowed column.kind found.1 ≡ true

-- a lineage column's field, where there is one, holds longs
abbrev pub HoldsLongs : Option Found → Type 0
HoldsLongs found = IfSome found (λ field. is_allowed kinds.Long field.1 ≡ true)

-- the fields of a file can be read for a table: each required column is there, and each column that is there has an
-- allowed type
pub record AreReadable (columns : List Column) (fields : List Field) : Type 0 where
  pub each : All (λ column. IsThere column (find column.id fields)) columns
  pub row_id : HoldsLongs (find row_id_field fields)
  pub last_updated : HoldsLongs (find last_updated_field fields)

-- ---- the rows

-- no null is in a required column
abbrev pub HasNoNull : List Column → List Cell → Type 0
HasNoNull [] cells = Unit {0}
HasNoNull (column ∷ columns) [] = Unit {0}
HasNoNull (column ∷ columns) (cell ∷ cells) = (column.required ≡ true → is_null cell ≡ false) × HasNoNull columns cells

-- the bytes are one value of the file's schema, and that value stores the row
pub record StoresRow (columns : List Column) (schema : Schema) (row : StoredRow) (bytes : List ℕ) : Type 0 where
  pub datum : Datum
  pub encoded : IsEncoding schema datum bytes
  pub stored : row ≡ stored_row columns (fields_of schema) (values_of datum)
  pub nulls : HasNoNull columns row.cells

-- the file stores these rows, for a table of these columns
pub record StoresRows (bytes : List ℕ) (columns : List Column) (rows : List StoredRow) : Type 0 where
  pub container : Container
  pub schema : Schema
  pub text : List ℕ
  pub framed : IsContainer bytes container
  pub bound : bound_to container.meta schema_key ≡ Some text
  pub written : IsSchemaText text schema
  pub readable : AreReadable columns (fields_of schema)
  pub blocks : Hold (StoresRow columns schema) container.blocks rows

-- ---- what is read

-- the file stores rows, and these are they, each read at its position
pub record ReadsRows (bytes : List ℕ) (columns : List Column) (first : Option ℤ) (sequence : ℤ) (rows : List Row)
    : Type 0 where
  pub stored : List StoredRow
  pub stores : StoresRows bytes columns stored
  pub read : rows ≡ rows_from first sequence 0 stored

-- the rows of a file of this size are read: it is within the limits, they are as many as the caller says, and the
-- file's first row id plus their number is at most the largest long
pub record AreRead (first told : Option ℤ) (size : FileSize) : Type 0 where
  pub within : IsWithinLimits size
  pub as_told : IfSome told (λ number. number ≡ pos size.rows)
  pub ids : IfSome first (λ id. (id +ℤ pos size.rows) ≤ℤ pos (2 ^ 63 - 1))
