-- What is read of a file is what it stores, whatever is answered.
use Rattle.std.proofs.Common.{◌≡◌, ℕ, List, length, Result, Ok, Err, sym, ◌∙◌}
use Rattle.std.specs.Prelude.{ℤ, Option, IfOk}
use Rattle.words.specs.Reading.{Gives}
use Rattle.words.specs.Laws.{refused_so}
use Rattle.row_types.specs.declared.column.Column.{Column}
use Rattle.row_types.specs.declared.row.Row.{Row}
use Rattle.row_types.specs.declared.row.StoredRow.{StoredRow}
use Rattle.stored_rows.specs.declared.refusal.RowRefusal.{RowRefusal}
use Rattle.stored_rows.specs.Refusal.{is_memory}
use Rattle.row_reading.specs.File.{file_size, rows_of}
use Rattle.stored_rows.specs.Rows.{rows_from}
use Rattle.stored_rows.specs.Stored.{StoresRows, ReadsRows, AreRead}

-- what is read is stored
abbrev pub Found : Type 0
Found = (bytes : List ℕ) (columns : List Column) (first : Option ℤ) (sequence : ℤ) (told : Option ℤ) (rows : List Row)
    → rows_of bytes columns first sequence told ≡ Ok rows → ReadsRows bytes columns first sequence rows

-- what is stored is read
abbrev pub Only : Type 0
Only = (bytes : List ℕ) (columns : List Column) (first : Option ℤ) (sequence : ℤ) (told : Option ℤ) (stored : List StoredRow)
    → StoresRows bytes columns stored → AreRead first told (file_size bytes stored)
    → rows_of bytes columns first sequence told ≡ Ok (rows_from first sequence 0 stored)

-- the file stores the rows that are seen of the answer
pub is_found : {X : Type 0} (rows_found : Found) (view : X → List Row) (bytes : List ℕ) (columns : List Column) (first : Option ℤ) (sequence : ℤ) (told : Option ℤ) (result : Result X RowRefusal) → Gives is_memory view result (rows_of bytes columns first sequence told)
    → IfOk result (λ x. ReadsRows bytes columns first sequence (view x))
is_found rows_found view bytes columns first sequence told (Ok x) given = rows_found bytes columns first sequence told (view x) given
is_found rows_found view bytes columns first sequence told (Err e) given = tt

-- and the rows that it stores are seen
pub is_only : {X : Type 0} (rows_only : Only) (view : X → List Row) (bytes : List ℕ) (columns : List Column) (first : Option ℤ) (sequence : ℤ) (told : Option ℤ) (result : Result X RowRefusal) → Gives is_memory view result (rows_of bytes columns first sequence told)
    → (stored : List StoredRow) → StoresRows bytes columns stored → AreRead first told (file_size bytes stored) → Gives is_memory view result (Ok (rows_from first sequence 0 stored))
is_only rows_only view bytes columns first sequence told (Ok x) given stored stores read = sym (rows_only bytes columns first sequence told stored stores read) ∙ given
is_only rows_only view bytes columns first sequence told (Err e) given stored stores read = refused_so (is_memory e) (λ refused. sym (rows_only bytes columns first sequence told stored stores read) ∙ refused) given
