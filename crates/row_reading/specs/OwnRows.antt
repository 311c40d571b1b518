-- The rows of a data file, by the columns of its own schema.
use Rattle.std.specs.Prelude.{◌≡◌, ℕ, ℤ, List, Option, None, Result, Ok}
use Rattle.words.specs.Reading.{◌>>=◌}
use Rattle.row_types.specs.declared.column.Column.{Column}
use Rattle.row_types.specs.declared.row.Row.{Row}
use Rattle.stored_rows.specs.declared.refusal.RowRefusal.{RowRefusal}
use Rattle.stored_rows.specs.Stored.{ReadsRows}
use Rattle.row_reading.specs.File.{opened, rows_of}
use Rattle.row_reading.specs.Columns.{columns_in, file_columns_of}
use Rattle.row_reading.specs.Checking.{Rows, unchecked_in}

-- the rows of a file, with its first row id and its data sequence number
unfoldable pub own_rows_of : List ℕ → Option ℤ → ℤ → Result (List Row) RowRefusal
own_rows_of bytes first sequence = file_columns_of bytes >>= λ columns. rows_of bytes columns first sequence None

-- they are those that the file stores, each read at its position
abbrev pub ReadsOwnRows : List ℕ → Option ℤ → ℤ → List Row → Type 0
ReadsOwnRows bytes first sequence rows =
    (columns : List Column) × (file_columns_of bytes ≡ Ok columns) × ReadsRows bytes columns first sequence rows

-- none of them was checked
unfoldable pub own_unchecked_of : List ℕ → Result Rows RowRefusal
own_unchecked_of bytes = do
  file ← opened bytes
  columns ← columns_in file
  unchecked_in columns file
