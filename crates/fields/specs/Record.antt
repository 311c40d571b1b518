-- A record, of which some fields are wanted, by a reading and by a relation.
use Rattle.std.specs.Prelude.{◌≡◌, ℕ, Bool, true, false, List, [], ◌∷◌, length, map, get_or, Option, Some, None}
use Rattle.std.specs.Prelude.{◌++◌, Result, Ok, IfSome}
use Rattle.std.specs.List.{AllZip}
use Rattle.words.specs.Reading.{◌>>=◌, map_refusal, map_value}
use Rattle.words.specs.Parts.{Stand, Took}
use Rattle.row_types.specs.declared.cell.Cell.{Cell}
use Rattle.row_types.specs.declared.cell.Cell.TheVariants as cells
use Rattle.schema_tree.specs.declared.schema.Schema.{Schema}
use Rattle.schema_tree.specs.declared.schema.Field.{Field}
use Rattle.datum_reading.specs.declared.cursor.Cursor.{Cursor}
use Rattle.datum_tree.specs.declared.datum.Datum.{Datum}
use Rattle.datum_reading.specs.declared.refusal.DatumRefusal.{DatumRefusal}
use Rattle.datum_reading.specs.declared.refusal.DatumRefusal.TheVariants as datums
use Rattle.datum_reading.specs.Reading.{datum_at}
use Rattle.datum_tree.specs.Spelling.{IsEncoding}
use Rattle.row_types.specs.declared.cell_ref.CellRef.{CellRef}
use Rattle.fields.specs.declared.layout.Layout.{Layout}
use Rattle.avro_cells.specs.declared.form.Form.{Form}
use Rattle.fields.specs.declared.wanted.Wanted.{Wanted}
use Rattle.fields.specs.declared.refusal.FieldRefusal.{FieldRefusal}
use Rattle.fields.specs.declared.refusal.FieldRefusal.TheVariants.{MissingField, NoValue, Memory}
use Rattle.avro_cells.specs.Form.{form_of}
use Rattle.row_types.specs.CellRef.{is_null}
use Rattle.avro_cells.specs.Value.{cell_of, values_of}
use Rattle.fields.specs.declared.leaf.Leaf.{Leaf}
use Rattle.fields.specs.Flat.{Opens, leaves, flat_values}
use Rattle.fields.specs.Kept.{kept, kept_values, slots, slot_at}
use Rattle.fields.specs.Wanted.{fields_of, opens, source, wanted_of, check_missing, check_nulls}
use Rattle.fields.specs.Nulls.{needed_from, with_nulls}
use Rattle.fields.specs.Order.{AreInOrder}

-- memory ran out, the one free answer
abbrev pub is_memory : FieldRefusal → Bool
is_memory Memory = true
is_memory (MissingField id) = false
is_memory (NoValue refusal) = false

-- of the bytes
abbrev pub datum_refusal : DatumRefusal → FieldRefusal
datum_refusal (datums.Short place) = NoValue (datums.Short place)
datum_refusal (datums.TooLong place) = NoValue (datums.TooLong place)
datum_refusal (datums.Flag place) = NoValue (datums.Flag place)
datum_refusal (datums.Branch place) = NoValue (datums.Branch place)
datum_refusal (datums.Utf8 place) = NoValue (datums.Utf8 place)
datum_refusal (datums.Size place) = NoValue (datums.Size place)
datum_refusal (datums.Items place) = NoValue (datums.Items place)
datum_refusal datums.Memory = Memory

-- ---- the relation

-- no null is required to be something
abbrev pub HasNoNull : List Wanted → List Cell → Type 0
HasNoNull [] cells = Unit {0}
HasNoNull (w ∷ wanted) [] = Unit {0}
HasNoNull (w ∷ wanted) (cell ∷ cells) = (w.required ≡ true → is_null cell ≡ false) × HasNoNull wanted cells

-- the bytes are one value of the schema, which has these cells where they are wanted
pub record Stores (schema : Schema) (wanted : List Wanted) (cells : List Cell) (bytes : List ℕ) : Type 0 where
  pub datum : Datum
  pub encoded : IsEncoding schema datum bytes
  pub stored : cells ≡ wanted_of wanted schema datum
  pub nulls : HasNoNull wanted cells

-- ---- the reading

-- where a record begins
abbrev pub start : ℕ → Cursor
start place = record { place = place; items = 0 }

-- no required field has a null
abbrev pub checked : List Wanted → List Cell → Result (List Cell) FieldRefusal
checked wanted cells = check_nulls wanted cells >>= λ _. Ok cells

-- the cells of the record at a place, and the place after it
unfoldable pub record_at : Schema → List Wanted → List ℕ → ℕ → Result (List Cell × ℕ) FieldRefusal
record_at schema wanted input place = do
  read ← map_refusal datum_refusal (datum_at schema input (start place))
  cells ← checked wanted (wanted_of wanted schema read.0)
  Ok (cells, read.1.place)

-- what is read is stored so, and what is stored so is read
pub record RecordAgrees (schema : Schema) (wanted : List Wanted) : Type 0 where
  pub sound : (input : List ℕ) (place : ℕ) (read : List Cell × ℕ) → record_at schema wanted input place ≡ Ok read
      → Took input place read.1 (Stores schema wanted read.0)
  pub complete : (input : List ℕ) (place after : ℕ) (cells : List Cell) (bytes : List ℕ)
      → Stores schema wanted cells bytes → Stand input place after bytes
      → record_at schema wanted input place ≡ Ok (cells, after)

-- ---- how it is read: every field of a primitive type as a cell

abbrev pub forms_of : List Leaf → List (Option Form)
forms_of fields = map (λ (leaf : Leaf). form_of leaf.schema) fields

-- the cell of a value that is read in this form; null if the type holds none
abbrev pub read_as : Option Form → Datum → Cell
read_as None value = cells.Null
read_as (Some form) value = cell_of (Some value)

-- the cells of the first values of fields
unfoldable pub read_cells : List Leaf → List Datum → List Cell
read_cells [] values = []
read_cells (field ∷ fields) [] = []
read_cells (field ∷ fields) (value ∷ values) = read_as (form_of field.schema) value ∷ read_cells fields values

-- what is read of one field
abbrev pub field_as : Option Form → Result (Datum × Cursor) DatumRefusal → Result (Cell × Cursor) DatumRefusal
field_as form read = map_value (λ read. (read_as form read.0, read.1)) read

-- what is read of fields
abbrev pub fields_as : List Leaf → Result (List Datum × Cursor) DatumRefusal → Result (List Cell × Cursor) DatumRefusal
fields_as fields read = map_value (λ read. (read_cells fields read.0, read.1)) read

-- the cells of the fields whose values take bytes, of a record's values
abbrev pub kept_cells : Opens → List Field → Datum → List Cell
kept_cells opened fields value =
    let all = leaves opened fields in
    read_cells (kept all) (kept_values all (flat_values opened fields (values_of value)))

-- what is read of a record
abbrev pub value_as : Opens → List Field → Result (Datum × Cursor) DatumRefusal
    → Result (List Cell × Cursor) DatumRefusal
value_as opened fields read = map_value (λ read. (kept_cells opened fields read.0, read.1)) read

-- the cell at a place
abbrev pub pick : List Cell → Option ℕ → Cell
pick all None = cells.Null
pick all (Some place) = get_or all place cells.Null

-- the place of a wanted field among those whose values take bytes
abbrev pub place_in : List Leaf → Wanted → Option ℕ
place_in fields w = slot_at (slots 0 fields) (source fields w)

-- ---- the same without the cells

-- one cell, of which only counts whether it is null
abbrev pub null_as : Result (Cell × Cursor) DatumRefusal → Result (Bool × Cursor) DatumRefusal
null_as read = map_value (λ read. (is_null read.0, read.1)) read

-- all cells, of which only counts which required field is the first null
abbrev pub first_as : ℕ → List ℕ → Result (List Cell × Cursor) DatumRefusal → Result (ℕ × Cursor) DatumRefusal
first_as none needed read = map_value (λ read. (with_nulls none needed read.0, read.1)) read

-- a record that is passed
abbrev pub passed_at : Schema → List Wanted → List ℕ → ℕ → Result ℕ FieldRefusal
passed_at schema wanted input place = map_value (λ read. read.1) (record_at schema wanted input place)

-- ---- how a layout is right

-- the values of a type are read as those of another one: in the same form, to the same cells and places
pub record IsTypeReadAs (type other : Schema) : Type 0 where
  pub form : form_of type ≡ form_of other
  pub read : (input : List ℕ) (at : Cursor)
      → field_as (form_of other) (datum_at type input at) ≡ field_as (form_of other) (datum_at other input at)

-- so is a field, which has the ids of the other one
pub record IsReadAs (leaf other : Leaf) : Type 0 where
  pub parent : leaf.parent ≡ other.parent
  pub id : leaf.id ≡ other.id
  pub schema : IsTypeReadAs leaf.schema other.schema

-- each of some fields is read as the one at its place among others
abbrev pub AreReadAs : List Leaf → List Leaf → Type 0
AreReadAs leaves others = AllZip IsReadAs leaves others

-- behind the fields before stand some more, which are read as others
pub record AddsReadAs (before after others : List Leaf) : Type 0 where
  pub more : List Leaf
  pub grown : after ≡ before ++ more
  pub read : AreReadAs more others

-- a layout is one for its schema and for what is wanted
pub record IsLayout (layout : Layout) : Type 0 where
  pub leaves_are : AreReadAs layout.leaves.items (kept (leaves (opens layout.wanted.items) (fields_of layout.schema)))
  pub forms : layout.forms.items ≡ forms_of layout.leaves.items
  pub sources : layout.sources.items
      ≡ map (place_in (leaves (opens layout.wanted.items) (fields_of layout.schema))) layout.wanted.items
  pub needed : layout.needed.items ≡ needed_from layout.wanted.items layout.sources.items 0 (length layout.leaves.items)
  pub order : IfSome layout.missing (AreInOrder layout.sources.items (length layout.leaves.items))
  pub there : check_missing (leaves (opens layout.wanted.items) (fields_of layout.schema)) layout.wanted.items ≡ Ok tt

-- there is room for a cell of each field that takes bytes, and for each that is wanted
pub record IsWide (layout : Layout) (all wanted : List CellRef) : Type 0 where
  pub every : length all ≡ length layout.forms.items
  pub each : length wanted ≡ length layout.sources.items
