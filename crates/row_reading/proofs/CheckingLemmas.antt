-- The checks of a file in their order: which refusal comes, and what a file that is right has.
use Rattle.std.proofs.Common.{◌≡◌, ℕ, ◌-◌, ◌≤◌, false, List, [], ◌∷◌, ◌+◌, length, Ok, Err, refl, sym, ap, ap₂, subst}
use Rattle.std.proofs.Common.{◌∙◌, inl, inr, arith}
use Rattle.std.specs.Prelude.{ℤ, pos, ◌+ℤ◌, ◌<ℤ◌, ◌≤ℤ◌, ◌^◌, int_lt, Option, Some, None, Result}
use Rattle.std.proofs.lemmas.Bool.{cases_Bool}
use Rattle.std.proofs.lemmas.Int.{ints}
use Rattle.words.specs.Reading.{◌>>=◌, map_value, outcome, Gives}
use Rattle.row_types.specs.declared.column.Column.{Column}
use Rattle.row_types.specs.declared.row.Row.{Row}
use Rattle.row_types.specs.declared.row.StoredRow.{StoredRow}
use Rattle.schema_tree.specs.declared.schema.Field.{Field}
use Rattle.schema_tree.specs.declared.schema.Schema.{Schema}
use Rattle.avro_container.specs.declared.container.Block.{Block}
use Rattle.avro_container.specs.declared.container.Container.{Container}
use Rattle.objects.specs.declared.blocks.Rest.{Rest as TheRest}
use Rattle.objects.specs.Object.{Reader}
use Rattle.objects.specs.Stream.{unless, all}
use Rattle.objects.specs.Blocks.{count_all}
use Rattle.objects.specs.StreamLaws.{all_checked, all_refused}
use Rattle.objects.specs.CountLaws.{objects_counted}
use Rattle.fields.specs.declared.layout.Layout.{Layout}
use Rattle.fields.specs.Wanted.{fields_of}
use Rattle.stored_rows.specs.declared.refusal.RowRefusal.{RowRefusal}
use Rattle.stored_rows.specs.declared.refusal.RowRefusal.TheVariants.{Rest}
use Rattle.stored_rows.specs.Refusal.{is_memory}
use Rattle.stored_rows.specs.Field.{check_fields}
use Rattle.limits.specs.Limits.{most_rows}
use Rattle.stored_rows.specs.Rows.{rows_from}
use Rattle.row_reading.specs.Wanted.{row_wanted, row_in_record}
use Rattle.row_reading.specs.File.{row_at, check_counts, check_told, check_ids, Opened, opened, rows_in, rows_of}
use Rattle.row_reading.specs.Checking.{check_before_rows, Rows, rows_in_blocks, check_numbers, check_all_rows, HaveIds, AreRight}
use Rattle.row_reading.specs.Checking.{rows_read, all_rows, unchecked_in, unchecked_of}
use Rattle.row_reading.specs.Checked.{row_by, rows_left}
use Rattle.row_reading.proofs.RowByRow.{objects_few}

-- what a check answers
abbrev pub Answer : Type 0
Answer = Result (Unit {0}) RowRefusal

-- ---- what comes before the rows

-- what was checked of fields that are these was checked of these
pub fields_so : (columns : List Column) (schema : Schema) (fields : List Field) (answer : Answer)
    → fields ≡ fields_of schema → answer ≡ check_fields fields columns → check_fields (fields_of schema) columns ≡ answer
fields_so columns schema fields answer fields_are is = sym (is ∙ ap (λ (fs : List Field). check_fields fs columns) fields_are)

-- the fields can't be read
pub fields_refused : (columns : List Column) (schema : Schema) (blocks : List Block) (e : RowRefusal)
    → check_fields (fields_of schema) columns ≡ Err e → check_before_rows columns schema blocks ≡ Err e
unfolding check_before_rows
fields_refused columns schema blocks e refused = rw refused refl

-- they can, and the counts are as they are
pub counts_answered : (columns : List Column) (schema : Schema) (blocks left : List Block) (answer : Answer)
    → check_fields (fields_of schema) columns ≡ Ok tt → left ≡ blocks → check_counts 0 left ≡ answer
    → check_before_rows columns schema blocks ≡ answer
unfolding check_before_rows
counts_answered columns schema blocks left answer readable left_is is =
    rw readable (ap (check_counts 0) (sym left_is) ∙ is)

-- ---- two checks, one after the other

-- two checks refuse what is read behind them
refused_behind : {A E : Type 0} (first second : Result (Unit {0}) E) (x : A) (e : E)
    → (first >>= λ _. second) ≡ Err e → (first >>= λ _. second >>= λ _. Ok x) ≡ Err e
refused_behind (Ok u) (Ok v) x e is = absurd cc
refused_behind (Ok u) (Err d) x e is = cc
refused_behind (Err d) second x e is = cc

-- or let it through
passed_behind : {A E : Type 0} (first second : Result (Unit {0}) E) (x : A)
    → (first >>= λ _. second) ≡ Ok tt → (first >>= λ _. second >>= λ _. Ok x) ≡ Ok x
passed_behind (Ok u) (Ok v) x is = refl
passed_behind (Ok u) (Err d) x is = absurd cc
passed_behind (Err d) second x is = absurd cc

-- the second one passes if both do
second_passed : (first second : Answer) → (first >>= λ _. second) ≡ Ok tt → second ≡ Ok tt
second_passed (Ok u) second passed = passed
second_passed (Err e) second passed = absurd cc

-- ---- ids

-- what a test finds not to be above isn't above
not_above : (most sum : ℤ) → int_lt most sum ≡ false → sum ≤ℤ most
not_above most sum within = grind (arith, ints)

-- what isn't above the largest long is below the next number
below_next : (sum : ℤ) → sum ≤ℤ pos (2 ^ 63 - 1) → sum <ℤ pos (2 ^ 63)
below_next sum within = omega (arith, ints)

-- ids that pass the check are longs
ids_within : (from : Option ℤ) (n : ℕ) → check_ids from n ≡ Ok tt → HaveIds from n
ids_within None n passed = tt
ids_within (Some id) n passed =
    elim (cases_Bool (int_lt (pos (2 ^ 63 - 1)) (id +ℤ pos n))) [
      | inl above ↦ absurd (let wrong = rw above at passed in cc)
      | inr within ↦ below_next (id +ℤ pos n) (not_above (pos (2 ^ 63 - 1)) (id +ℤ pos n) within)
    ]

-- so are those of fewer rows
pub fewer_ids : (from : Option ℤ) (few many : ℕ) → few ≤ many → HaveIds from many → HaveIds from few
fewer_ids None few many fewer ids = tt
fewer_ids (Some id) few many fewer ids = omega (arith, ints)

-- ---- rows that are checked, and rows that are read

-- what is checked of rows that are read
abbrev checks : Result (List StoredRow) RowRefusal → Option ℤ → Option ℤ → Answer
checks read first told = read >>= λ rows. check_told told (length rows) >>= λ _. check_ids first (length rows)

-- the rows, if the checks pass
abbrev answers : Result (List StoredRow) RowRefusal → Option ℤ → Option ℤ → ℤ → Result (List Row) RowRefusal
answers read first told sequence =
    read >>= λ stored. check_told told (length stored) >>= λ _. check_ids first (length stored) >>= λ _. Ok (rows_from first sequence 0 stored)

-- rows that are refused when they are checked are when they are read
read_refused : (fault : Option RowRefusal) (rows : List StoredRow) (first told : Option ℤ) (sequence : ℤ) (e : RowRefusal)
    → checks (unless fault rows) first told ≡ Err e → answers (unless fault rows) first told sequence ≡ Err e
read_refused None rows first told sequence e is =
    refused_behind (check_told told (length rows)) (check_ids first (length rows)) (rows_from first sequence 0 rows) e is
read_refused (Some d) rows first told sequence e is = cc

-- and rows that pass are read
read_passed : (fault : Option RowRefusal) (rows : List StoredRow) (first told : Option ℤ) (sequence : ℤ)
    → checks (unless fault rows) first told ≡ Ok tt → answers (unless fault rows) first told sequence ≡ Ok (rows_from first sequence 0 rows)
read_passed None rows first told sequence is =
    passed_behind (check_told told (length rows)) (check_ids first (length rows)) (rows_from first sequence 0 rows) is
read_passed (Some d) rows first told sequence is = absurd cc

-- the same of rows that were checked
pub all_refused_so : (rows : Rows) (first : Option ℤ) (sequence : ℤ) (told : Option ℤ) (e : RowRefusal)
    → check_all_rows rows first told ≡ Err e → all_rows rows first sequence told ≡ Err e
unfolding check_all_rows all_rows
all_refused_so rows first sequence told e refused = read_refused rows.fault rows.objects first told sequence e refused

pub all_passed : (rows left : Rows) (first : Option ℤ) (sequence : ℤ) (told : Option ℤ)
    → check_all_rows rows first told ≡ Ok tt → left ≡ rows
    → all_rows rows first sequence told ≡ Ok (rows_from first sequence 0 left.objects)
unfolding check_all_rows all_rows
all_passed rows left first sequence told passed is =
    read_passed rows.fault rows.objects first told sequence passed
    ∙ ap (λ (s : Rows). Ok (rows_from first sequence 0 s.objects)) (sym is)

-- rows whose number passes its checks are read
read_by_number : (fault : Option RowRefusal) (rows : List StoredRow) (many : ℕ) (first told : Option ℤ) (sequence : ℤ)
    → (fault ≡ None → length rows ≡ many) → check_numbers many first told ≡ Ok tt
    → answers (unless fault rows) first told sequence ≡ map_value (λ stored. rows_from first sequence 0 stored) (unless fault rows)
read_by_number None rows many first told sequence as_many passed =
    passed_behind (check_told told (length rows)) (check_ids first (length rows)) (rows_from first sequence 0 rows)
    (ap (λ (n : ℕ). check_numbers n first told) (as_many refl) ∙ passed)
read_by_number (Some d) rows many first told sequence as_many passed = refl

-- ---- the rows of blocks

-- and how many the blocks say that they have
module _ (read : Reader StoredRow RowRefusal) (blocks : List Block) (rows : Rows) (many : ℕ) (first told : Option ℤ)
    (are : rows ≡ rows_in_blocks read blocks) (count : many ≡ count_all blocks) where
  -- a row is refused
  pub rows_wrong : (e : RowRefusal) → outcome (all rows) ≡ Err e → check_all_rows rows first told ≡ Err e
  unfolding check_all_rows
  rows_wrong e wrong = rw (all_refused rows e wrong) refl

  -- if none is refused, they are as many
  as_many : rows.fault ≡ None → length rows.objects ≡ many
  as_many right =
      let none : (rows_in_blocks read blocks).fault ≡ None = ap (λ (r : Rows). r.fault) (sym are) ∙ right in
      ap (λ (r : Rows). length r.objects) are ∙ (objects_counted read Rest blocks 1 none ∙ sym count)

  -- they are never more
  never_more : length rows.objects ≤ many
  never_more = omega (arith, ap (λ (r : Rows). length r.objects) are, objects_few read Rest blocks 1, count)

  -- none is refused, and their number is as it is
  pub numbers_answered : (answer : Answer) → outcome (all rows) ≡ Ok tt → check_numbers many first told ≡ answer
      → check_all_rows rows first told ≡ answer
  unfolding check_all_rows
  numbers_answered answer right numbers =
      let checked = all_checked rows right in
      rw checked.1 (ap (λ (n : ℕ). check_numbers n first told) (as_many checked.0) ∙ numbers)

  -- rows that passed all checks are right
  pub rows_right : outcome (all rows) ≡ Ok tt → many ≤ most_rows → check_numbers many first told ≡ Ok tt
      → AreRight rows first
  rows_right right few numbers =
      let checked = all_checked rows right in
      let ids = second_passed (check_told told many) (check_ids first many) numbers in
      record {
        right = checked.0;
        few = omega (arith, few, as_many checked.0);
        ids = subst (HaveIds first) (sym (as_many checked.0)) (ids_within first many ids);
      }

  -- rows whose number passes its checks are few, and have ids that are longs
  pub number_right : many ≤ most_rows → check_numbers many first told ≡ Ok tt
      → (length rows.objects ≤ most_rows) × HaveIds first (length rows.objects)
  number_right few numbers =
      let ids = ids_within first many (second_passed (check_told told many) (check_ids first many) numbers) in
      let fewer = never_more in
      (omega (arith, few, fewer), fewer_ids first (length rows.objects) many fewer ids)

  -- and are read
  pub number_read : (sequence : ℤ) → check_numbers many first told ≡ Ok tt
      → all_rows rows first sequence told ≡ rows_read first sequence rows
  unfolding all_rows
  number_read sequence numbers = read_by_number rows.fault rows.objects many first told sequence as_many numbers

-- ---- the rows of a file that was opened

-- a file is refused before its rows
pub before_refused : (columns : List Column) (container : Container) (schema : Schema) (e : RowRefusal)
    → check_before_rows columns schema container.blocks ≡ Err e → unchecked_in columns (container, schema) ≡ Err e
unfolding unchecked_in
before_refused columns container schema e refused = rw refused refl

-- or has the rows of its blocks
pub opened_given : (columns : List Column) (container after : Container) (schema : Schema) (layout reader : Layout) (rest : TheRest)
    → check_before_rows columns schema container.blocks ≡ Ok tt → layout.schema ≡ schema
    → layout.wanted.items ≡ row_wanted columns → reader ≡ layout → after ≡ container
    → rows_left reader rest ≡ rows_in_blocks (row_by reader) after.blocks
    → unchecked_in columns (container, schema) ≡ Ok (rows_left reader rest)
unfolding unchecked_in
opened_given columns container after schema layout reader rest passed schema_is wanted_is reader_is after_is left =
    let same : row_by layout ≡ row_at schema columns = ap₂ row_in_record schema_is wanted_is in
    let read = ap row_by reader_is ∙ same in
    let rows = left ∙ ap₂ (λ (r : Reader StoredRow RowRefusal) (c : Container). rows_in_blocks r c.blocks) read after_is in
    rw passed (ap (λ (s : Rows). Ok s) (sym rows))

-- ---- the whole file

-- the file is no container with a schema
pub unopened : (bytes : List ℕ) (columns : List Column) (e : RowRefusal)
    → opened bytes ≡ Err e → unchecked_of bytes columns ≡ Err e
unfolding unchecked_of
unopened bytes columns e refused = rw refused refl

-- it is one, and has the rows of the file that was opened
pub as_opened : (bytes : List ℕ) (columns : List Column) (file : Opened)
    → opened bytes ≡ Ok file → unchecked_of bytes columns ≡ unchecked_in columns file
unfolding unchecked_of
as_opened bytes columns file opens = rw opens refl

-- two checks and what is read behind them, and then what is made of that
parted : {A B C E : Type 0} (first second : Result (Unit {0}) E) (rows : C) (read : C → Result A E) (after : A → Result B E)
    → ((first >>= λ _. second >>= λ _. read rows) >>= after) ≡ (((first >>= λ _. second) >>= λ _. Ok rows) >>= λ x. read x >>= after)
parted (Ok u) (Ok v) rows read after = refl
parted (Ok u) (Err d) rows read after = refl
parted (Err d) second rows read after = refl

-- what is made of stored rows
abbrev numbered : Option ℤ → ℤ → Option ℤ → List StoredRow → Result (List Row) RowRefusal
numbered first sequence told stored =
    check_told told (length stored) >>= λ _. check_ids first (length stored) >>= λ _. Ok (rows_from first sequence 0 stored)

-- the rows of a file are its unchecked rows, which are then checked and read
opened_rows : (columns : List Column) (first : Option ℤ) (sequence : ℤ) (told : Option ℤ) (read : Result Opened RowRefusal)
    → (read >>= λ file. rows_in columns file >>= λ stored. numbered first sequence told stored)
    ≡ ((read >>= unchecked_in columns) >>= λ rows. all_rows rows first sequence told)
unfolding rows_in unchecked_in all_rows check_before_rows
opened_rows columns first sequence told (Err e) = refl
opened_rows columns first sequence told (Ok (container, schema)) =
    parted (check_fields (fields_of schema) columns) (check_counts 0 container.blocks)
    (rows_in_blocks (row_at schema columns) container.blocks) all (numbered first sequence told)

pub as_unchecked : (bytes : List ℕ) (columns : List Column) (first : Option ℤ) (sequence : ℤ) (told : Option ℤ)
    → rows_of bytes columns first sequence told ≡ (unchecked_of bytes columns >>= λ rows. all_rows rows first sequence told)
unfolding rows_of unchecked_of
as_unchecked bytes columns first sequence told = opened_rows columns first sequence told (opened bytes)

-- a file whose rows can't be checked is refused
pub file_refused : (bytes : List ℕ) (columns : List Column) (first : Option ℤ) (sequence : ℤ) (told : Option ℤ) (e : RowRefusal)
    → unchecked_of bytes columns ≡ Err e → rows_of bytes columns first sequence told ≡ Err e
file_refused bytes columns first sequence told e refused =
    as_unchecked bytes columns first sequence told ∙ ap (λ (r : Result Rows RowRefusal). r >>= λ rows. all_rows rows first sequence told) refused

-- what is given of its unchecked rows is given of the file
pub file_given : {X : Type 0} (view : X → List Row) (bytes : List ℕ) (columns : List Column) (first : Option ℤ)
    (sequence : ℤ) (told : Option ℤ) (rows : Rows) (result : Result X RowRefusal) → unchecked_of bytes columns ≡ Ok rows
    → Gives is_memory view result (all_rows rows first sequence told)
    → Gives is_memory view result (rows_of bytes columns first sequence told)
file_given view bytes columns first sequence told rows result there given =
    let is = as_unchecked bytes columns first sequence told ∙ ap (λ (r : Result Rows RowRefusal). r >>= λ rows. all_rows rows first sequence told) there in
    subst (λ (read : Result (List Row) RowRefusal). Gives is_memory view result read) (sym is) given

-- as many rows are read as are stored
rows_counted : (first : Option ℤ) (sequence : ℤ) (position : ℕ) (stored : List StoredRow) → length (rows_from first sequence position stored) ≡ length stored
unfolding rows_from
rows_counted first sequence position [] = refl
rows_counted first sequence position (row ∷ others) = omega (arith, rows_counted first sequence (position + 1) others)

-- few, if so are those
pub rows_few : (first : Option ℤ) (sequence : ℤ) (stored : List StoredRow) → length stored ≤ most_rows → length (rows_from first sequence 0 stored) ≤ most_rows
rows_few first sequence stored few = omega (arith, rows_counted first sequence 0 stored, few)
