-- What `rows` does: it prints the rows of a data file, by the columns of its own schema.
-- Iceberg spec, "Row Lineage"; "Column Projection".
use Rattle.std.specs.Prelude.{◌≡◌, ℕ, ◌^◌, ◌<◌, pos, List, [], ◌∷◌, Option, Some, None, Result, Ok, Err, IfSome}
use Rattle.std.specs.Prelude.{codes, decimal}
use Rattle.std.specs.Option.{option_map}
use Rattle.row_types.specs.declared.column.Column.{Column}
use Rattle.row_types.specs.declared.row.Row.{Row}
use Rattle.row_types.specs.declared.row.StoredRow.{StoredRow}
use Rattle.stored_rows.specs.declared.refusal.RowRefusal.{RowRefusal}
use Rattle.stored_rows.specs.Stored.{StoresRows, AreRead}
use Rattle.row_reading.specs.Columns.{file_columns_of}
use Rattle.row_reading.specs.File.{file_size}
use Rattle.row_reading.specs.OwnRows.{own_rows_of, ReadsOwnRows}
use Rattle.lineage_cli.specs.declared.ending.Ending.{Ending}
use Rattle.lineage_cli.specs.declared.ending.Ending.TheVariants.{Table}
use Rattle.lineage_cli.specs.Answers.{Answer, Answers}
use Rattle.lineage_cli.specs.Outside.{Outside}
use Rattle.lineage_cli.specs.Text.{lines}

-- the word of a first row id: the id in decimal without sign or leading zero, or - if there is none
abbrev pub first_word : Option ℕ → List ℕ
first_word None = codes "-"
first_word (Some id) = decimal id

-- the words: the command's name, a first row id, perhaps none, and a sequence number in decimal
abbrev pub AsksRows : List (List ℕ) → Option ℕ → ℕ → Type 0
AsksRows words first sequence =
    IfSome first (λ id. id < 2 ^ 63) × (sequence < 2 ^ 63)
    × (words ≡ codes "rows" ∷ first_word first ∷ decimal sequence ∷ [])

-- the rows of a file by its own columns, with its first row id, if it has one, and its data sequence number
unfoldable pub file_rows : Option ℕ → ℕ → List ℕ → Result (List Row) RowRefusal
file_rows first sequence bytes = own_rows_of bytes (option_map pos first) (pos sequence)

-- they are those that the file stores, each read at its position
pub record HasRows (first : Option ℕ) (sequence : ℕ) (bytes : List ℕ) (rows : List Row) : Type 0 where
  pub read : file_rows first sequence bytes ≡ Ok rows
  pub stored : ReadsOwnRows bytes (option_map pos first) (pos sequence) rows

-- the file stores rows for its own columns, and they can be read: it is within the limits, and so are their ids
pub record StoresOwnRows (first : Option ℕ) (bytes : List ℕ) : Type 0 where
  pub columns : List Column
  pub own : file_columns_of bytes ≡ Ok columns
  pub rows : List StoredRow
  pub stores : StoresRows bytes columns rows
  pub readable : AreRead (option_map pos first) None (file_size bytes rows)

-- this is the first refusal of the file, and it stores no rows that can be read
pub record IsRefused (first : Option ℕ) (sequence : ℕ) (bytes : List ℕ) (refusal : RowRefusal) : Type 0 where
  pub read : file_rows first sequence bytes ≡ Err refusal
  pub none : StoresOwnRows first bytes → ⊥

-- the answer for the bytes of a file: a line for each of its rows, or its first refusal
abbrev pub RowsAnswer : Option ℕ → ℕ → List ℕ → Answer
RowsAnswer first sequence bytes (Ok text) = (rows : List Row) × HasRows first sequence bytes rows × (text ≡ lines rows)
RowsAnswer first sequence bytes (Err (Table refusal)) = IsRefused first sequence bytes refusal
RowsAnswer first sequence bytes (Err _) = ⊥

-- the command: an input of at most 64 MiB
abbrev pub ServesRows : Option ℕ → ℕ → Outside → Outside → Result (Unit {0}) Ending → Type 0
ServesRows first sequence = Answers 67108864 (RowsAnswer first sequence)
