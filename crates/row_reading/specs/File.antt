-- The rows of a data file, or the first refusal in the order of the checks.
-- Avro 1.11, "Object Container Files"; Iceberg spec, "Row Lineage".
use Rattle.std.specs.Prelude.{ℕ, ◌+◌, ◌-◌, ◌^◌, ℤ, pos, ◌+ℤ◌, int_lt, List, [], ◌∷◌, length}
use Rattle.std.specs.Prelude.{Option, Some, None, Result, Ok, Err, nat_lt, if◌then◌else◌}
use Rattle.std.specs.Ordering.{int_eq}
use Rattle.words.specs.Reading.{◌>>=◌, map_refusal}
use Rattle.row_types.specs.declared.column.Column.{Column}
use Rattle.row_types.specs.declared.row.Row.{Row}
use Rattle.row_types.specs.declared.row.StoredRow.{StoredRow}
use Rattle.limits.specs.declared.which.Which.TheVariants.{FileRows}
use Rattle.schema_tree.specs.declared.schema.Schema.{Schema}
use Rattle.avro_schema.specs.Reading.{schema_of}
use Rattle.avro_container.specs.declared.container.Block.{Block}
use Rattle.avro_container.specs.declared.container.Container.{Container}
use Rattle.avro_container.specs.Header.{schema_key, bound_to}
use Rattle.avro_container.specs.Container.{container_at}
use Rattle.objects.specs.Object.{Reader}
use Rattle.objects.specs.Blocks.{count_of, objects_of}
use Rattle.stored_rows.specs.declared.refusal.RowRefusal.{RowRefusal}
use Rattle.stored_rows.specs.declared.refusal.RowRefusal.TheVariants.{Rest, RecordCount, IdsSpent, Limit}
use Rattle.stored_rows.specs.Refusal.{container_refusal, schema_refusal}
use Rattle.fields.specs.Wanted.{fields_of}
use Rattle.stored_rows.specs.Field.{check_fields}
use Rattle.limits.specs.Limits.{FileSize, most_rows}
use Rattle.stored_rows.specs.Rows.{rows_from}
use Rattle.row_reading.specs.Wanted.{row_wanted, row_in_record}

-- what of a file that stores these rows has a limit
abbrev pub file_size : List ℕ → List StoredRow → FileSize
file_size bytes stored = record { bytes = length bytes; rows = length stored }

-- ---- a row

-- a row at a place of a block's bytes, and the place after it
abbrev pub row_at : Schema → List Column → Reader StoredRow RowRefusal
row_at schema columns = row_in_record schema (row_wanted columns)

-- ---- the checks of a file

-- the counts of the blocks are together no more than that; else the sum up to the first block that passes it
unfoldable pub check_counts : ℕ → List Block → Result (Unit {0}) RowRefusal
check_counts before [] = Ok tt
check_counts before (block ∷ blocks) =
    if nat_lt most_rows (before + count_of block) then Err (Limit FileRows (before + count_of block)) else
    check_counts (before + count_of block) blocks

-- the file has as many rows as the caller says, where that is said
abbrev pub check_told : Option ℤ → ℕ → Result (Unit {0}) RowRefusal
check_told None found = Ok tt
check_told (Some told) found = if int_eq told (pos found) then Ok tt else Err (RecordCount told (pos found))

-- where the file has a first row id, that id and the number of rows are together at most the largest long
abbrev pub check_ids : Option ℤ → ℕ → Result (Unit {0}) RowRefusal
check_ids None rows = Ok tt
check_ids (Some first) rows =
    if int_lt (pos (2 ^ 63 - 1)) (first +ℤ pos rows) then Err (IdsSpent first (pos rows)) else Ok tt

-- the schema that a header binds
abbrev pub schema_in : Option (List ℕ) → Result Schema RowRefusal
schema_in None = map_refusal schema_refusal (schema_of [])
schema_in (Some text) = map_refusal schema_refusal (schema_of text)

-- a file's container, and its schema
abbrev pub Opened : Type 0
Opened = Container × Schema

unfoldable pub opened : List ℕ → Result Opened RowRefusal
opened bytes = do
  container ← map_refusal container_refusal (container_at bytes)
  schema ← schema_in (bound_to container.meta schema_key)
  Ok (container, schema)

-- the stored rows of a file that was opened, for a table of these columns
unfoldable pub rows_in : List Column → Opened → Result (List StoredRow) RowRefusal
rows_in columns (container, schema) = do
  _ ← check_fields (fields_of schema) columns
  _ ← check_counts 0 container.blocks
  objects_of (row_at schema columns) Rest container.blocks

-- the rows of a file for a table of these columns, with the file's first row id, its data sequence number and the
-- number of rows that the caller says it has
unfoldable pub rows_of : List ℕ → List Column → Option ℤ → ℤ → Option ℤ → Result (List Row) RowRefusal
rows_of bytes columns first sequence told = do
  file ← opened bytes
  stored ← rows_in columns file
  _ ← check_told told (length stored)
  _ ← check_ids first (length stored)
  Ok (rows_from first sequence 0 stored)
