-- The rows of a file by the columns of its own schema.
use Rattle.std.proofs.Common.{◌≡◌, ℕ, List, [], Result, Ok, Err, refl, sym, ap, ◌∙◌, subst}
use Rattle.std.specs.Prelude.{ℤ, Option, None, IfOk}
use Rattle.words.specs.Reading.{◌>>=◌, Gives}
use Rattle.words.specs.Laws.{refused_so}
use Rattle.words.specs.Steps.{bind_then, bind_only}
use Rattle.row_types.specs.declared.column.Column.{Column}
use Rattle.row_types.specs.declared.row.Row.{Row}
use Rattle.row_types.specs.declared.row.StoredRow.{StoredRow}
use Rattle.schema_tree.specs.declared.schema.Schema.{Schema}
use Rattle.avro_container.specs.declared.container.Container.{Container}
use Rattle.fields.specs.Wanted.{fields_of}
use Rattle.stored_rows.specs.declared.refusal.RowRefusal.{RowRefusal}
use Rattle.stored_rows.specs.Refusal.{is_memory}
use Rattle.stored_rows.specs.Rows.{rows_from}
use Rattle.stored_rows.specs.Stored.{StoresRows, AreRead}
use Rattle.row_reading.specs.File.{Opened, opened, file_size, rows_of}
use Rattle.row_reading.specs.Columns.{columns_from, checked, columns_in, file_columns_of}
use Rattle.row_reading.specs.Checking.{Rows, all_rows, unchecked_in, unchecked_of}
use Rattle.row_reading.specs.OwnRows.{own_rows_of, ReadsOwnRows, own_unchecked_of}
use Rattle.row_reading.proofs.ReadingLemmas.{Found, Only}
use Rattle.row_reading.proofs.CheckingLemmas.{as_unchecked}

-- ---- the unchecked rows

-- the file is no container with a schema
pub own_unopened : (bytes : List ℕ) (e : RowRefusal) → opened bytes ≡ Err e → own_unchecked_of bytes ≡ Err e
unfolding own_unchecked_of
own_unopened bytes e refused = rw refused refl

-- its schema has no columns of a table
pub own_unlisted : (bytes : List ℕ) (container : Container) (schema : Schema) (e : RowRefusal) → opened bytes ≡ Ok (container, schema)
    → (columns_from [] (fields_of schema) >>= checked) ≡ Err e → own_unchecked_of bytes ≡ Err e
unfolding own_unchecked_of columns_in
own_unlisted bytes container schema e opens refused = rw (opens, refused) refl

-- it has them
pub own_opened : (bytes : List ℕ) (container : Container) (schema : Schema) (columns : List Column) → opened bytes ≡ Ok (container, schema)
    → (columns_from [] (fields_of schema) >>= checked) ≡ Ok columns → own_unchecked_of bytes ≡ unchecked_in columns (container, schema)
unfolding own_unchecked_of columns_in
own_opened bytes container schema columns opens listed = rw (opens, listed) refl

-- ---- the rows

-- what is made of the columns of a file that was opened
by_columns : {A : Type 0} (file : Opened) (columns : Result (List Column) RowRefusal) (rows : List Column → Result A RowRefusal) (after : Rows → Result A RowRefusal)
    → ((cs : List Column) → rows cs ≡ (unchecked_in cs file >>= after))
    → (columns >>= rows) ≡ ((columns >>= λ cs. unchecked_in cs file) >>= after)
by_columns file (Ok cs) rows after same = same cs
by_columns file (Err e) rows after same = refl

-- what is made of a file, which is opened once
by_file : {A : Type 0} (file : Result Opened RowRefusal) (rows : List Column → Result A RowRefusal) (after : Rows → Result A RowRefusal)
    → ((cs : List Column) → rows cs ≡ ((file >>= unchecked_in cs) >>= after))
    → ((file >>= columns_in) >>= rows) ≡ ((file >>= λ opens. columns_in opens >>= λ cs. unchecked_in cs opens) >>= after)
by_file (Ok opens) rows after same = by_columns opens (columns_in opens) rows after same
by_file (Err e) rows after same = refl

-- the rows of a file are its unchecked rows, which are then checked and read
own_as_unchecked : (bytes : List ℕ) (first : Option ℤ) (sequence : ℤ)
    → own_rows_of bytes first sequence ≡ (own_unchecked_of bytes >>= λ rows. all_rows rows first sequence None)
unfolding own_rows_of file_columns_of own_unchecked_of unchecked_of
own_as_unchecked bytes first sequence =
    by_file (opened bytes) (λ columns. rows_of bytes columns first sequence None) (λ rows. all_rows rows first sequence None)
    (λ columns. as_unchecked bytes columns first sequence None)

-- a file whose rows can't be checked is refused
pub own_refused : (bytes : List ℕ) (first : Option ℤ) (sequence : ℤ) (e : RowRefusal)
    → own_unchecked_of bytes ≡ Err e → own_rows_of bytes first sequence ≡ Err e
own_refused bytes first sequence e refused =
    own_as_unchecked bytes first sequence ∙ ap (λ (r : Result Rows RowRefusal). r >>= λ rows. all_rows rows first sequence None) refused

-- what is given of its unchecked rows is given of the file
pub own_given : {X : Type 0} (view : X → List Row) (bytes : List ℕ) (first : Option ℤ) (sequence : ℤ) (rows : Rows) (result : Result X RowRefusal)
    → own_unchecked_of bytes ≡ Ok rows → Gives is_memory view result (all_rows rows first sequence None)
    → Gives is_memory view result (own_rows_of bytes first sequence)
own_given view bytes first sequence rows result there given =
    let is = own_as_unchecked bytes first sequence ∙ ap (λ (r : Result Rows RowRefusal). r >>= λ rows. all_rows rows first sequence None) there in
    subst (λ (read : Result (List Row) RowRefusal). Gives is_memory view result read) (sym is) given

-- ---- what the file stores

-- the file stores the rows that are seen of the answer
pub own_found : {X : Type 0} (rows_found : Found) (view : X → List Row) (bytes : List ℕ) (first : Option ℤ) (sequence : ℤ) (result : Result X RowRefusal)
    → Gives is_memory view result (own_rows_of bytes first sequence) → IfOk result (λ x. ReadsOwnRows bytes first sequence (view x))
unfolding own_rows_of
own_found rows_found view bytes first sequence (Ok x) given =
    bind_then (file_columns_of bytes) (λ columns. rows_of bytes columns first sequence None) (view x) given
    (λ columns listed rows. (columns, listed, rows_found bytes columns first sequence None (view x) rows))
own_found rows_found view bytes first sequence (Err e) given = tt

-- the rows that it stores are read
own_stored : (rows_only : Only) (bytes : List ℕ) (columns : List Column) (first : Option ℤ) (sequence : ℤ) (stored : List StoredRow)
    → file_columns_of bytes ≡ Ok columns → StoresRows bytes columns stored → AreRead first None (file_size bytes stored)
    → own_rows_of bytes first sequence ≡ Ok (rows_from first sequence 0 stored)
unfolding own_rows_of
own_stored rows_only bytes columns first sequence stored listed stores read =
    bind_only (file_columns_of bytes) (λ cs. rows_of bytes cs first sequence None) columns _ listed (rows_only bytes columns first sequence None stored stores read)

-- and seen
pub own_only : {X : Type 0} (rows_only : Only) (view : X → List Row) (bytes : List ℕ) (first : Option ℤ) (sequence : ℤ) (result : Result X RowRefusal)
    → Gives is_memory view result (own_rows_of bytes first sequence) → (columns : List Column) (stored : List StoredRow) → file_columns_of bytes ≡ Ok columns
    → StoresRows bytes columns stored → AreRead first None (file_size bytes stored) → Gives is_memory view result (Ok (rows_from first sequence 0 stored))
own_only rows_only view bytes first sequence (Ok x) given columns stored listed stores read =
    sym (own_stored rows_only bytes columns first sequence stored listed stores read) ∙ given
own_only rows_only view bytes first sequence (Err e) given columns stored listed stores read =
    refused_so (is_memory e) (λ refused. sym (own_stored rows_only bytes columns first sequence stored listed stores read) ∙ refused) given
