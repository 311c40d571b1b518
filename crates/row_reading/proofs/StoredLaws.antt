-- What is read of a data file is what it stores, and what it stores is read.
use Rattle.std.proofs.Common.{◌≡◌, ℕ, ◌-◌, ◌≤◌, ℤ, pos, ◌+ℤ◌, ◌≤ℤ◌, true, false, List, [], ◌∷◌, length, Some, None}
use Rattle.std.proofs.Common.{Ok, inl, inr, refl, sym, ap, subst, ◌∙◌, arith}
use Rattle.std.specs.Prelude.{Option, IfSome, int_lt, ◌^◌}
use Rattle.std.specs.Str.{bytes_eq}
use Rattle.std.proofs.lemmas.Bool.{cases_Bool}
use Rattle.std.proofs.lemmas.Bool.Decides.{Decides-int_eq}
use Rattle.std.proofs.lemmas.Int.{ints}
use Rattle.words.specs.Reading.{map_refusal}
use Rattle.row_types.specs.declared.column.Column.{Column}
use Rattle.row_types.specs.declared.row.Row.{Row}
use Rattle.row_types.specs.declared.row.StoredRow.{StoredRow}
use Rattle.schema_tree.specs.declared.schema.Schema.{Schema}
use Rattle.avro_schema.specs.Meaning.{IsSchemaText}
use Rattle.avro_schema.specs.Reading.{schema_of}
use Rattle.avro_container.specs.declared.container.Container.{Container}
use Rattle.avro_container.specs.Header.{Pair, has_key, bound_to, schema_key}
use Rattle.avro_container.specs.Container.{container_at, most_bytes}
use Rattle.avro_container.specs.Format.{IsContainer}
use Rattle.words.specs.Steps.{bind_then, map_ok, ok_is}
use Rattle.stored_rows.specs.Refusal.{container_refusal, schema_refusal}
use Rattle.fields.specs.Wanted.{fields_of}
use Rattle.stored_rows.specs.Field.{check_fields}
use Rattle.objects.specs.Object.{Agrees}
use Rattle.objects.specs.HeldLaws.{objects_found, objects_only}
use Rattle.objects.specs.CountLaws.{held_counted}
use Rattle.stored_rows.specs.declared.refusal.RowRefusal.TheVariants.{Rest}
use Rattle.row_reading.specs.File.{file_size, row_at, check_counts, check_told, check_ids, schema_in, Opened, opened, rows_in, rows_of}
use Rattle.stored_rows.specs.Rows.{rows_from}
use Rattle.stored_rows.specs.Stored.{AreReadable, StoresRow, StoresRows, ReadsRows, AreRead}
use Rattle.stored_rows.specs.FieldLaws.{fields_readable, fields_checked}
use Rattle.row_reading.specs.Laws.{Laws}
use Rattle.row_reading.specs.Wanted.{row_wanted}
use Rattle.row_reading.proofs.StoredRows.{rows_agree}
use Rattle.row_reading.proofs.CountLemmas.{counts_few}

-- ---- the container and the schema

-- a file that was opened: its container, and the schema that its header binds
record IsOpened (bytes : List ℕ) (file : Opened) : Type 0 where
  text : List ℕ
  framed : IsContainer bytes file.0
  bound : bound_to file.0.meta schema_key ≡ Some text
  written : IsSchemaText text file.1

-- a key that is there is bound to something
bound_there : (pairs : List Pair) (key : List ℕ) → has_key pairs key ≡ true → bound_to pairs key ≡ None → ⊥
bound_there [] key has none = absurd cc
bound_there (pair ∷ pairs) key has none =
    elim (cases_Bool (bytes_eq pair.0 key)) [
      | inl here ↦ let some : Some pair.1 ≡ None = rw here at none in absurd cc
      | inr other ↦ bound_there pairs key (rw other at has) (rw other at none)
    ]

module _ (laws : Laws) where
  -- what is read of what a header binds, by what that is
  opened_as : (bytes : List ℕ) (container : Container) (schema : Schema) (bound : Option (List ℕ)) → IsContainer bytes container → bound_to container.meta schema_key ≡ bound → schema_in bound ≡ Ok schema → IsOpened bytes (container, schema)
  opened_as bytes container schema None framed is read = absurd (bound_there container.meta schema_key framed.header.schema is)
  opened_as bytes container schema (Some text) framed is read = record { text = text; framed = framed; bound = is; written = laws.schema_found text schema (map_ok schema_refusal (schema_of text) schema read) }

  -- what is opened is so
  opened_is : (bytes : List ℕ) (file : Opened) → opened bytes ≡ Ok file → IsOpened bytes file
  unfolding opened
  opened_is bytes file read =
      bind_then (map_refusal container_refusal (container_at bytes)) _ file read (λ container container_read others.
      bind_then (schema_in (bound_to container.meta schema_key)) _ file others (λ schema schema_read made.
      let framed = laws.container_found bytes container (map_ok container_refusal (container_at bytes) container container_read) in
      subst (IsOpened bytes) (ok_is (container, schema) file made) (opened_as bytes container schema (bound_to container.meta schema_key) framed refl schema_read)))

  -- what is so is opened
  opened_again : (bytes : List ℕ) (container : Container) (schema : Schema) (text : List ℕ) → IsContainer bytes container → bound_to container.meta schema_key ≡ Some text → IsSchemaText text schema → length bytes ≤ most_bytes → opened bytes ≡ Ok (container, schema)
  unfolding opened
  opened_again bytes container schema text framed bound written size =
      let read : schema_in (bound_to container.meta schema_key) ≡ Ok schema = ap schema_in bound ∙ ap (map_refusal schema_refusal) (laws.schema_only text schema written) in
      rw (laws.container_only bytes container framed size, read) refl

  -- ---- the rows

  -- the reading of a row agrees with what its bytes store
  agrees : (schema : Schema) (columns : List Column) → AreReadable columns (fields_of schema) → Agrees (row_at schema columns) (StoresRow columns schema)
  agrees schema columns readable = rows_agree schema columns readable (laws.records schema (row_wanted columns))

  -- rows that are read are stored
  stores_rows : (bytes : List ℕ) (columns : List Column) (file : Opened) (stored : List StoredRow) → IsOpened bytes file → rows_in columns file ≡ Ok stored → StoresRows bytes columns stored
  unfolding rows_in
  stores_rows bytes columns (container, schema) stored is read =
      bind_then (check_fields (fields_of schema) columns) _ stored read (λ done readable others.
      bind_then (check_counts 0 container.blocks) _ stored others (λ counted few rows_read.
      record {
        container = container;
        schema = schema;
        text = is.text;
        framed = is.framed;
        bound = is.bound;
        written = is.written;
        readable = fields_readable (fields_of schema) columns done readable;
        blocks = objects_found (row_at schema columns) (StoresRow columns schema) (agrees schema columns (fields_readable (fields_of schema) columns done readable))
            Rest container.blocks stored rows_read;
      }))

  -- rows that are stored, and are few, are read
  rows_in_again : (bytes : List ℕ) (columns : List Column) (stored : List StoredRow) (stores : StoresRows bytes columns stored) (first told : Option ℤ) → AreRead first told (file_size bytes stored) → rows_in columns (stores.container, stores.schema) ≡ Ok stored
  unfolding rows_in
  rows_in_again bytes columns stored stores first told read =
      let schema = stores.schema in
      let blocks = stores.container.blocks in
      let Stores = StoresRow columns schema in
      let fields = fields_checked (fields_of schema) columns stores.readable in
      let many = held_counted Stores blocks stored stores.blocks in
      let counts = counts_few blocks 0 (omega (arith, read.within.rows, many)) in
      rw (fields, counts) (objects_only (row_at schema columns) Stores (agrees schema columns stores.readable) Rest blocks stored stores.blocks)

  -- ---- the checks

  -- as many rows as were told pass the check
  told_passes : (told : Option ℤ) (rows : ℕ) → IfSome told (λ number. number ≡ pos rows) → check_told told rows ≡ Ok tt
  told_passes None rows as_told = refl
  told_passes (Some number) rows as_told = rw ((Decides-int_eq number (pos rows)).1 as_told) refl

  -- what isn't above isn't below
  not_above : (most sum : ℤ) → sum ≤ℤ most → int_lt most sum ≡ false
  not_above most sum within = grind (arith, ints)

  -- ids that are there for all rows pass the check
  ids_pass : (first : Option ℤ) (rows : ℕ) → IfSome first (λ id. (id +ℤ pos rows) ≤ℤ pos (2 ^ 63 - 1)) → check_ids first rows ≡ Ok tt
  ids_pass None rows ids = refl
  ids_pass (Some id) rows ids = rw (not_above (pos (2 ^ 63 - 1)) (id +ℤ pos rows) ids) refl

  -- ---- both directions

  -- what is read is what the file stores
  pub rows_found : (bytes : List ℕ) (columns : List Column) (first : Option ℤ) (sequence : ℤ) (told : Option ℤ) (rows : List Row) → rows_of bytes columns first sequence told ≡ Ok rows → ReadsRows bytes columns first sequence rows
  unfolding rows_of
  rows_found bytes columns first sequence told rows read =
      bind_then (opened bytes) _ rows read (λ file file_read others.
      bind_then (rows_in columns file) _ rows others (λ stored stored_read others.
      bind_then (check_told told (length stored)) _ rows others (λ counted is_told others.
      bind_then (check_ids first (length stored)) _ rows others (λ numbered has_ids made.
      record { stored = stored; stores = stores_rows bytes columns file stored (opened_is bytes file file_read) stored_read; read = sym (ok_is (rows_from first sequence 0 stored) rows made) }))))

  -- what the file stores is read
  pub rows_only : (bytes : List ℕ) (columns : List Column) (first : Option ℤ) (sequence : ℤ) (told : Option ℤ) (stored : List StoredRow) → StoresRows bytes columns stored → AreRead first told (file_size bytes stored)
      → rows_of bytes columns first sequence told ≡ Ok (rows_from first sequence 0 stored)
  unfolding rows_of
  rows_only bytes columns first sequence told stored stores read =
      let file = opened_again bytes stores.container stores.schema stores.text stores.framed stores.bound stores.written read.within.bytes in
      let rows = rows_in_again bytes columns stored stores first told read in
      rw (file, rows, told_passes told (length stored) read.as_told, ids_pass first (length stored) read.ids) refl
