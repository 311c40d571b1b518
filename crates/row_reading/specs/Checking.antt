-- The checks of a file that was opened: what comes before its rows, and then its rows.
-- Each is a part of rows_of (specs/File.antt), which one call checks or reads.
use Rattle.std.specs.Prelude.{◌≡◌, ℕ, ◌≤◌, ◌^◌, ℤ, pos, ◌+ℤ◌, ◌<ℤ◌, List, length, Option, None, Result, Ok, IfSome}
use Rattle.words.specs.Reading.{◌>>=◌, map_value}
use Rattle.row_types.specs.declared.column.Column.{Column}
use Rattle.row_types.specs.declared.row.Row.{Row}
use Rattle.row_types.specs.declared.row.StoredRow.{StoredRow}
use Rattle.schema_tree.specs.declared.schema.Schema.{Schema}
use Rattle.avro_container.specs.declared.container.Block.{Block}
use Rattle.objects.specs.Object.{Reader}
use Rattle.objects.specs.Stream.{Stream, all}
use Rattle.objects.specs.Blocks.{blocks_from}
use Rattle.fields.specs.Wanted.{fields_of}
use Rattle.stored_rows.specs.declared.refusal.RowRefusal.{RowRefusal}
use Rattle.stored_rows.specs.declared.refusal.RowRefusal.TheVariants.{Rest}
use Rattle.stored_rows.specs.Field.{check_fields}
use Rattle.limits.specs.Limits.{most_rows}
use Rattle.stored_rows.specs.Rows.{rows_from}
use Rattle.row_reading.specs.File.{Opened, opened, row_at, check_counts, check_told, check_ids}

-- the columns can be read from the file's fields, and its blocks have together no more rows than a file may have
unfoldable pub check_before_rows : List Column → Schema → List Block → Result (Unit {0}) RowRefusal
check_before_rows columns schema blocks = do
  _ ← check_fields (fields_of schema) columns
  check_counts 0 blocks

-- rows up to the first refusal
abbrev pub Rows : Type 0
Rows = Stream StoredRow RowRefusal

-- those of all blocks
abbrev pub rows_in_blocks : Reader StoredRow RowRefusal → List Block → Rows
rows_in_blocks read blocks = blocks_from read Rest 1 blocks

-- so many rows are as many as the caller says, and have ids that end in time
abbrev pub check_numbers : ℕ → Option ℤ → Option ℤ → Result (Unit {0}) RowRefusal
check_numbers many first told = check_told told many >>= λ _. check_ids first many

-- all rows are right, as many as the caller says, and with ids that end in time
unfoldable pub check_all_rows : Rows → Option ℤ → Option ℤ → Result (Unit {0}) RowRefusal
check_all_rows rows first told = all rows >>= λ stored. check_numbers (length stored) first told

-- the ids of `count` rows are longs if the file has a first one
abbrev pub HaveIds : Option ℤ → ℕ → Type 0
HaveIds first many = IfSome first (λ id. (id +ℤ pos many) <ℤ pos (2 ^ 63))

-- they have no refusal, are no more than a file may have, and have ids that are longs
pub record AreRight (rows : Rows) (first : Option ℤ) : Type 0 where
  pub right : rows.fault ≡ None
  pub few : length rows.objects ≤ most_rows
  pub ids : HaveIds first (length rows.objects)

-- all of them, read at their positions, whatever their number
abbrev pub rows_read : Option ℤ → ℤ → Rows → Result (List Row) RowRefusal
rows_read first sequence rows = map_value (λ stored. rows_from first sequence 0 stored) (all rows)

-- the same, if they are as many as the caller says, and have ids that end in time
unfoldable pub all_rows : Rows → Option ℤ → ℤ → Option ℤ → Result (List Row) RowRefusal
all_rows rows first sequence told = do
  stored ← all rows
  _ ← check_told told (length stored)
  _ ← check_ids first (length stored)
  Ok (rows_from first sequence 0 stored)

-- ---- the rows of a file, none of which was checked

-- those of a file that was opened, if what comes before them is right
unfoldable pub unchecked_in : List Column → Opened → Result Rows RowRefusal
unchecked_in columns (container, schema) = do
  _ ← check_before_rows columns schema container.blocks
  Ok (rows_in_blocks (row_at schema columns) container.blocks)

-- those of a file
unfoldable pub unchecked_of : List ℕ → List Column → Result Rows RowRefusal
unchecked_of bytes columns = opened bytes >>= unchecked_in columns
