-- Reading the fields of a record and of the records in it, one behind the other, is reading the record.
use Rattle.std.proofs.Common.{◌≡◌, ℕ, true, false, Bool, List, [], ◌∷◌, ◌++◌, map, Result, Ok, Err, refl, sym, ap}
use Rattle.std.proofs.Common.{◌∙◌, append_assoc}
use Rattle.std.specs.Prelude.{ℤ, Option}
use Rattle.std.proofs.lemmas.List.{append-nil, map-append}
use Rattle.words.specs.Reading.{◌>>=◌, map_value}
use Rattle.schema_tree.specs.declared.schema.Schema.{Schema, out-Schema}
use Rattle.schema_tree.specs.declared.schema.Schema.TheOpen as types
use Rattle.schema_tree.specs.declared.schema.Schema.TheVariants as schemas
use Rattle.schema_tree.specs.declared.schema.Schema.TheViews.{roll-Schema, roll-out-Schema}
use Rattle.schema_tree.specs.declared.schema.Field.{Field, out-Field}
use Rattle.datum_reading.specs.declared.cursor.Cursor.{Cursor}
use Rattle.datum_tree.specs.declared.datum.Datum.{Datum}
use Rattle.datum_tree.specs.declared.datum.Datum.TheVariants as datums
use Rattle.datum_reading.specs.declared.refusal.DatumRefusal.{DatumRefusal}
use Rattle.datum_reading.specs.Reading.{Reader, fields_at, datum_at}
use Rattle.datum_reading.specs.Readers.{readers_of}
use Rattle.datum_reading.specs.Layers.{reads-Rec}
use Rattle.avro_cells.specs.Kind.{Level}
use Rattle.avro_cells.specs.Value.{values_of_level}
use Rattle.fields.specs.declared.leaf.Leaf.{Leaf}
use Rattle.fields.specs.Flat.{inner_leaf, leaves_of_level, leaves_of_field, leaves_if, leaves, flat_of_level, flat_if}
use Rattle.fields.specs.Flat.{flat_values, Opens}
use Rattle.fields.specs.Flat.{leaf_readers}

-- what reading fields answers
abbrev pub Answer : Type 0
Answer = Result (List Datum × Cursor) DatumRefusal

-- values behind others
abbrev pub behind : List Datum → Answer → Answer
behind before read = map_value (λ read. (before ++ read.0, read.1)) read

behind_behind : (a b : List Datum) (read : Answer) → behind (a ++ b) read ≡ behind a (behind b read)
behind_behind a b (Ok read) = ap (λ (xs : List Datum). Ok (xs, read.1)) (append_assoc a b read.0)
behind_behind a b (Err e) = refl

-- a value, and those behind it
step_behind : (others : List Datum → Cursor → Answer) → ((before : List Datum) (at : Cursor) → others before at ≡ behind before (others [] at)) → (before : List Datum) (read : Result (Datum × Cursor) DatumRefusal)
    → (read >>= λ r. others (before ++ r.0 ∷ []) r.1) ≡ behind before (read >>= λ r. others (r.0 ∷ []) r.1)
step_behind others same before (Ok r) = same (before ++ r.0 ∷ []) r.1 ∙ (behind_behind before (r.0 ∷ []) (others [] r.1) ∙ ap (behind before) (sym (same (r.0 ∷ []) r.1)))
step_behind others same before (Err e) = refl

-- values that are read behind others
pub read_behind : (readers : List Reader) (before : List Datum) (input : List ℕ) (at : Cursor) → fields_at readers before input at ≡ behind before (fields_at readers [] input at)
unfolding fields_at
read_behind [] before input at = ap (λ (xs : List Datum). Ok (xs, at)) (sym (append-nil before))
read_behind (reader ∷ readers) before input at = step_behind (λ b a. fields_at readers b input a) (λ b a. read_behind readers b input a) before (reader input at)

-- a reader, and two more
bind_bind : {A B C E : Type 0} (r : Result A E) (f : A → Result B E) (g : B → Result C E) → (r >>= λ x. f x >>= g) ≡ ((r >>= f) >>= g)
bind_bind (Ok x) f g = refl
bind_bind (Err e) f g = refl

-- the same behind a reader
pub bind_same : {A B E : Type 0} (r : Result A E) (f g : A → Result B E) → ((x : A) → f x ≡ g x) → (r >>= f) ≡ (r >>= g)
bind_same (Ok x) f g same = same x
bind_same (Err e) f g same = refl

-- some fields, and those behind them
read_both : (front rest : List Reader) (before : List Datum) (input : List ℕ) (at : Cursor) → fields_at (front ++ rest) before input at ≡ (fields_at front before input at >>= λ r. fields_at rest r.0 input r.1)
unfolding fields_at
read_both [] rest before input at = refl
read_both (reader ∷ front) rest before input at =
    bind_same (reader input at) _ _ (λ r. read_both front rest (before ++ r.0 ∷ []) input r.1)
    ∙ bind_bind (reader input at) (λ r. fields_at front (before ++ r.0 ∷ []) input r.1) (λ r. fields_at rest r.0 input r.1)

-- ---- the values of a field

-- one value alone
abbrev alone : Datum × Cursor → Answer
alone r = Ok (r.0 ∷ [], r.1)

one_as : (read : Result (Datum × Cursor) DatumRefusal) → (read >>= alone) ≡ map_value (λ r. (r.0 ∷ [], r.1)) read
one_as (Ok r) = refl
one_as (Err e) = refl

-- a field that is no record
one_read : (reader : Reader) (input : List ℕ) (at : Cursor) → fields_at (reader ∷ []) [] input at ≡ map_value (λ read. (read.0 ∷ [], read.1)) (reader input at)
unfolding fields_at
one_read reader input at = one_as (reader input at)

-- the values of a field, flat
abbrev flat : Level → Result (Datum × Cursor) DatumRefusal → Answer
flat level read = map_value (λ read. (flat_of_level level read.0, read.1)) read

-- the readers of the fields of an inner record
inner_readers : (parent : Option ℤ) (fields : List Field) → leaf_readers (map (inner_leaf parent) fields) ≡ readers_of fields
inner_readers parent [] = refl
inner_readers parent (field ∷ fields) = ap (λ (rs : List Reader). datum_at field.schema ∷ rs) (inner_readers parent fields)

-- the values of an inner record
rec_flat : (name : List ℕ) (fields : List Field) (read : Answer) → read ≡ flat (types.Rec name fields) (map_value (λ r. (datums.Rec r.0, r.1)) read)
rec_flat name fields (Ok read) = ap (λ level. Ok (values_of_level level, read.1)) (sym (datums.outs-Rec read.0))
rec_flat name fields (Err e) = refl

-- of a layer
field_flat : (field : Field) (level : Level) (schema : Schema) → roll-Schema level ≡ schema → (out-Field field).schema ≡ schema → (input : List ℕ) (at : Cursor) → fields_at (leaf_readers (leaves_of_level field level)) [] input at ≡ flat level (datum_at schema input at)
field_flat field (types.Rec name fields) schema is type input at =
    ap (λ (rs : List Reader). fields_at rs [] input at) (inner_readers (out-Field field).id fields)
    ∙ rec_flat name fields (fields_at (readers_of fields) [] input at)
    ∙ ap (flat (types.Rec name fields)) (sym (ap (λ (s : Schema). datum_at s input at) (sym is ∙ schemas.rolls-Rec name fields) ∙ reads-Rec name fields input at))
field_flat field types.Null schema is type input at = one_read (datum_at (out-Field field).schema) input at ∙ ap (λ (s : Schema). flat types.Null (datum_at s input at)) type
field_flat field types.Boolean schema is type input at = one_read (datum_at (out-Field field).schema) input at ∙ ap (λ (s : Schema). flat types.Boolean (datum_at s input at)) type
field_flat field (types.Int l) schema is type input at = one_read (datum_at (out-Field field).schema) input at ∙ ap (λ (s : Schema). flat (types.Int l) (datum_at s input at)) type
field_flat field (types.Long l) schema is type input at = one_read (datum_at (out-Field field).schema) input at ∙ ap (λ (s : Schema). flat (types.Long l) (datum_at s input at)) type
field_flat field types.Float schema is type input at = one_read (datum_at (out-Field field).schema) input at ∙ ap (λ (s : Schema). flat types.Float (datum_at s input at)) type
field_flat field types.Double schema is type input at = one_read (datum_at (out-Field field).schema) input at ∙ ap (λ (s : Schema). flat types.Double (datum_at s input at)) type
field_flat field types.Raw schema is type input at = one_read (datum_at (out-Field field).schema) input at ∙ ap (λ (s : Schema). flat types.Raw (datum_at s input at)) type
field_flat field types.Str schema is type input at = one_read (datum_at (out-Field field).schema) input at ∙ ap (λ (s : Schema). flat types.Str (datum_at s input at)) type
field_flat field (types.Fixed name size) schema is type input at = one_read (datum_at (out-Field field).schema) input at ∙ ap (λ (s : Schema). flat (types.Fixed name size) (datum_at s input at)) type
field_flat field (types.Enum name symbols) schema is type input at = one_read (datum_at (out-Field field).schema) input at ∙ ap (λ (s : Schema). flat (types.Enum name symbols) (datum_at s input at)) type
field_flat field (types.Array items id keyed) schema is type input at = one_read (datum_at (out-Field field).schema) input at ∙ ap (λ (s : Schema). flat (types.Array items id keyed) (datum_at s input at)) type
field_flat field (types.Map values key value) schema is type input at = one_read (datum_at (out-Field field).schema) input at ∙ ap (λ (s : Schema). flat (types.Map values key value) (datum_at s input at)) type
field_flat field (types.Union branches) schema is type input at = one_read (datum_at (out-Field field).schema) input at ∙ ap (λ (s : Schema). flat (types.Union branches) (datum_at s input at)) type

-- of a field that is opened, or is not
abbrev flat_of : Bool → Field → Result (Datum × Cursor) DatumRefusal → Answer
flat_of test field read = map_value (λ read. (flat_if test (out-Schema (out-Field field).schema) read.0, read.1)) read

opened_flat : (test : Bool) (field : Field) (input : List ℕ) (at : Cursor)
    → fields_at (leaf_readers (leaves_if test field)) [] input at ≡ flat_of test field (datum_at (out-Field field).schema input at)
opened_flat true field input at = field_flat field (out-Schema (out-Field field).schema) (out-Field field).schema (roll-out-Schema (out-Field field).schema) refl input at
opened_flat false field input at = one_read (datum_at (out-Field field).schema) input at

-- ---- the values of fields

-- what is read of all fields, flat
abbrev pub all_flat : Opens → List Field → Answer → Answer
all_flat opened fields read = map_value (λ read. (flat_values opened fields read.0, read.1)) read

-- the values of a field before those of the others
put_flat : (opened : Opens) (field : Field) (fields : List Field) (value : Datum) (read : Answer) → behind (flat_if (opened (out-Field field).id) (out-Schema (out-Field field).schema) value) (all_flat opened fields read) ≡ all_flat opened (field ∷ fields) (behind (value ∷ []) read)
put_flat opened field fields value (Ok read) = refl
put_flat opened field fields value (Err e) = refl

-- a first field, and the others
first_flat : (opened : Opens) (field : Field) (fields : List Field) (read : Result (Datum × Cursor) DatumRefusal) (others : Cursor → Answer)
    → (flat_of (opened (out-Field field).id) field read >>= λ r. behind r.0 (all_flat opened fields (others r.1))) ≡ all_flat opened (field ∷ fields) (read >>= λ r. behind (r.0 ∷ []) (others r.1))
first_flat opened field fields (Ok r) others = put_flat opened field fields r.0 (others r.1)
first_flat opened field fields (Err e) others = refl

-- reading the leaves is reading the fields
pub leaves_read : (opened : Opens) (fields : List Field) (input : List ℕ) (at : Cursor) → fields_at (leaf_readers (leaves opened fields)) [] input at ≡ all_flat opened fields (fields_at (readers_of fields) [] input at)
unfolding fields_at
leaves_read opened [] input at = refl
leaves_read opened (field ∷ fields) input at =
    ap (λ (rs : List Reader). fields_at rs [] input at) (map-append (λ (leaf : Leaf). datum_at leaf.schema) (leaves_of_field opened field) (leaves opened fields))
    ∙ read_both (leaf_readers (leaves_of_field opened field)) (leaf_readers (leaves opened fields)) [] input at
    ∙ ap (λ (r : Answer). r >>= λ r. fields_at (leaf_readers (leaves opened fields)) r.0 input r.1) (opened_flat (opened (out-Field field).id) field input at)
    ∙ bind_same (flat_of (opened (out-Field field).id) field (datum_at (out-Field field).schema input at)) _ _ (λ r. read_behind (leaf_readers (leaves opened fields)) r.0 input r.1 ∙ ap (behind r.0) (leaves_read opened fields input r.1))
    ∙ first_flat opened field fields (datum_at (out-Field field).schema input at) (λ a. fields_at (readers_of fields) [] input a)
    ∙ ap (all_flat opened (field ∷ fields)) (bind_same (datum_at (out-Field field).schema input at) _ _ (λ r. sym (read_behind (readers_of fields) (r.0 ∷ []) input r.1)))
