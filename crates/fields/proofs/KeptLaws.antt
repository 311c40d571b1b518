-- Reading the fields whose values take bytes, one behind the other, is reading all fields.
use Rattle.std.proofs.Common.{◌≡◌, ℕ, zero, suc, ◌+◌, ◌-◌, true, false, Bool, List, [], ◌∷◌, ◌++◌, length}
use Rattle.std.proofs.Common.{get_or, Result, Ok, Err, refl, sym, ap, ◌∙◌, subst, inl, inr, arith}
use Rattle.std.specs.Prelude.{slice_get, slice_range, nat_lt, is_some, ◌&&◌, ◌==◌}
use Rattle.std.specs.declared.option.Option.{Option}
use Rattle.std.specs.declared.option.Option.TheVariants.{Some, None}
use Rattle.std.proofs.lemmas.Bool.{cases_Bool, eqb-true, le-ltb, false≢true}
use Rattle.words.specs.Reading.{◌>>=◌, map_value}
use Rattle.schema_tree.specs.declared.schema.Schema.{Schema, out-Schema}
use Rattle.schema_tree.specs.declared.schema.Schema.TheOpen as types
use Rattle.schema_tree.specs.declared.schema.Schema.TheVariants as schemas
use Rattle.schema_tree.specs.declared.schema.Schema.TheViews.{roll-Schema, roll-out-Schema}
use Rattle.schema_tree.specs.declared.schema.Schema.TheFolds.{fold-Field, fold_out-Field}
use Rattle.schema_tree.specs.declared.schema.Field.{Field, out-Field}
use Rattle.schema_tree.specs.Equations.{fold_boolean, fold_int, fold_long, fold_float, fold_double, fold_raw}
use Rattle.schema_tree.specs.Equations.{fold_str, fold_fixed, fold_enum, fold_rec, fold_array, fold_map, fold_union}
use Rattle.schema_tree.specs.Inductions.{Each, every}
use Rattle.datum_reading.specs.declared.cursor.Cursor.{Cursor}
use Rattle.datum_tree.specs.declared.datum.Datum.{Datum}
use Rattle.datum_tree.specs.declared.datum.Datum.TheVariants as datums
use Rattle.datum_reading.specs.declared.refusal.DatumRefusal.{DatumRefusal}
use Rattle.datum_reading.specs.Reading.{raw_at, moved, fields_at, datum_at}
use Rattle.datum_reading.specs.Layers.{reads-Null, reads-Fixed, reads-Rec}
use Rattle.datum_reading.specs.Readers.{readers_of}
use Rattle.avro_cells.specs.Kind.{Level, nullable_level}
use Rattle.avro_cells.specs.Form.{form_as, form_of}
use Rattle.fields.specs.declared.leaf.Leaf.{Leaf}
use Rattle.fields.specs.Flat.{leaf_readers}
use Rattle.fields.specs.Kept.{empty_of, empty_field, is_empty, are_empty, is_bare, kept, kept_values}
use Rattle.fields.specs.Kept.{slots}
use Rattle.fields.proofs.FlatLaws.{Answer, behind, bind_same, read_behind}

-- ---- values that take no bytes

-- a value is read, and the cursor stays where it stands
record ReadsNothing (read : Result (Datum × Cursor) DatumRefusal) (at : Cursor) : Type 0 where
  value : Datum
  is : read ≡ Ok (value, at)

-- no bytes
no_bytes : (input : List ℕ) (at : Cursor)
    → raw_at 0 input at ≡ Ok (datums.Raw (slice_range input at.place (at.place + 0)), at)
unfolding raw_at
no_bytes input at =
    let few : nat_lt (length input - at.place) 0 ≡ false = le-ltb (length input - at.place) 0 (omega arith) in
    let stays : at.place + 0 ≡ at.place = omega arith in
    rw few (ap (λ (n : ℕ). Ok (datums.Raw (slice_range input at.place (at.place + 0)), moved at n)) stays)

-- of a fixed type
fixed_nothing : (name : List ℕ) (size : ℕ) → (size == 0) ≡ true → (input : List ℕ) (at : Cursor)
    → ReadsNothing (datum_at (schemas.Fixed name size) input at) at
fixed_nothing name size none input at = record {
  value = datums.Raw (slice_range input at.place (at.place + 0));
  is = reads-Fixed name size input at ∙ ap (λ (n : ℕ). raw_at n input at) (eqb-true size 0 none) ∙ no_bytes input at;
}

-- of two tests that both hold
both_hold : (a b : Bool) → (a && b) ≡ true → (a ≡ true) × (b ≡ true)
both_hold true b is = (refl, is)
both_hold false b is = absurd cc

-- so is a type, if its values take no bytes
abbrev Nothing : Schema → Type 0
Nothing schema = is_empty schema ≡ true → (input : List ℕ) (at : Cursor) → ReadsNothing (datum_at schema input at) at

-- a type whose values take bytes
takes_some : (schema : Schema) → is_empty schema ≡ false → Nothing schema
takes_some schema some none input at = absurd (false≢true (sym some ∙ none))

-- values are read, and the cursor stays where it stands
record ReadNothing (read : Result (List Datum × Cursor) DatumRefusal) (at : Cursor) : Type 0 where
  values : List Datum
  is : read ≡ Ok (values, at)

-- fields whose values take no bytes
fields_nothing : (fields : List Field) → Each (λ field. Nothing (out-Field field).schema) fields → are_empty fields ≡ true
    → (before : List Datum) (input : List ℕ) (at : Cursor) → ReadNothing (fields_at (readers_of fields) before input at) at
unfolding fields_at
fields_nothing [] each none before input at = record { values = before; is = refl }
fields_nothing (field ∷ fields) each none before input at =
    let tests = both_hold (fold-Field Bool Bool empty_of empty_field field) (are_empty fields) none in
    let first = each.0 (sym (fold_out-Field Bool Bool empty_of empty_field field) ∙ tests.0) input at in
    let others = fields_nothing fields each.1 tests.1 (before ++ first.value ∷ []) input at in
    record {
      values = others.values;
      is = ap (λ r. r >>= λ read. fields_at (readers_of fields) (before ++ read.0 ∷ []) input read.1) first.is ∙ others.is;
    }

-- a record of such fields
record_nothing : (name : List ℕ) (fields : List Field) → Each (λ field. Nothing (out-Field field).schema) fields → Nothing (schemas.Rec name fields)
record_nothing name fields each none input at =
    let inner = fields_nothing fields each (sym (fold_rec empty_of empty_field name fields) ∙ none) [] input at in
    record {
      value = datums.Rec inner.values;
      is = reads-Rec name fields input at ∙ ap (map_value (λ read. (datums.Rec read.0, read.1))) inner.is;
    }

-- of a type whose values take no bytes
empty_reads : (schema : Schema) → Nothing schema
empty_reads = every Nothing (record {
  null = λ none input at. record { value = datums.Null; is = reads-Null input at };
  boolean = takes_some schemas.Boolean (fold_boolean empty_of empty_field);
  int = λ l. takes_some (schemas.Int l) (fold_int empty_of empty_field l);
  long = λ l. takes_some (schemas.Long l) (fold_long empty_of empty_field l);
  float = takes_some schemas.Float (fold_float empty_of empty_field);
  double = takes_some schemas.Double (fold_double empty_of empty_field);
  raw = takes_some schemas.Raw (fold_raw empty_of empty_field);
  str = takes_some schemas.Str (fold_str empty_of empty_field);
  fixed = λ name size none input at. fixed_nothing name size (sym (fold_fixed empty_of empty_field name size) ∙ none) input at;
  enum = λ name symbols. takes_some (schemas.Enum name symbols) (fold_enum empty_of empty_field name symbols);
  rec = λ name fields each. record_nothing name fields each;
  array = λ items id keyed inner. takes_some (schemas.Array items id keyed) (fold_array empty_of empty_field items id keyed);
  map_of = λ values key value inner. takes_some (schemas.Map values key value) (fold_map empty_of empty_field values key value);
  union = λ branches each. takes_some (schemas.Union branches) (fold_union empty_of empty_field branches);
})

-- of a field
bare_reads : (leaf : Leaf) → is_bare leaf ≡ true → (input : List ℕ) (at : Cursor)
    → ReadsNothing (datum_at leaf.schema input at) at
bare_reads leaf bare input at = empty_reads leaf.schema bare input at

-- what a schema of a level is
level_is : (schema other : Schema) (level : Level) → out-Schema schema ≡ level → roll-Schema level ≡ other → schema ≡ other
level_is schema other level is rolls = sym (roll-out-Schema schema) ∙ ap roll-Schema is ∙ rolls

-- a type that holds cells takes bytes
form_takes : (schema : Schema) (level : Level) → out-Schema schema ≡ level
    → is_some (form_as level (nullable_level schema level)) ≡ true → is_empty schema ≡ false
form_takes schema types.Null is has = absurd cc (rw is at has)
form_takes schema (types.Fixed name size) is has = absurd cc (rw is at has)
form_takes schema (types.Rec name fields) is has = absurd cc (rw is at has)
form_takes schema types.Boolean is has = ap is_empty (level_is schema _ types.Boolean is schemas.rolls-Boolean) ∙ fold_boolean empty_of empty_field
form_takes schema (types.Int l) is has = ap is_empty (level_is schema _ (types.Int l) is (schemas.rolls-Int l)) ∙ fold_int empty_of empty_field l
form_takes schema (types.Long l) is has = ap is_empty (level_is schema _ (types.Long l) is (schemas.rolls-Long l)) ∙ fold_long empty_of empty_field l
form_takes schema types.Float is has = ap is_empty (level_is schema _ types.Float is schemas.rolls-Float) ∙ fold_float empty_of empty_field
form_takes schema types.Double is has = ap is_empty (level_is schema _ types.Double is schemas.rolls-Double) ∙ fold_double empty_of empty_field
form_takes schema types.Raw is has = ap is_empty (level_is schema _ types.Raw is schemas.rolls-Raw) ∙ fold_raw empty_of empty_field
form_takes schema types.Str is has = ap is_empty (level_is schema _ types.Str is schemas.rolls-Str) ∙ fold_str empty_of empty_field
form_takes schema (types.Enum name symbols) is has =
    ap is_empty (level_is schema _ (types.Enum name symbols) is (schemas.rolls-Enum name symbols)) ∙ fold_enum empty_of empty_field name symbols
form_takes schema (types.Array items id keyed) is has =
    ap is_empty (level_is schema _ (types.Array items id keyed) is (schemas.rolls-Array items id keyed)) ∙ fold_array empty_of empty_field items id keyed
form_takes schema (types.Map values key value) is has =
    ap is_empty (level_is schema _ (types.Map values key value) is (schemas.rolls-Map values key value)) ∙ fold_map empty_of empty_field values key value
form_takes schema (types.Union branches) is has =
    ap is_empty (level_is schema _ (types.Union branches) is (schemas.rolls-Union branches)) ∙ fold_union empty_of empty_field branches

-- a field that holds cells takes bytes
pub leaf_takes : (leaf : Leaf) → is_some (form_of leaf.schema) ≡ true → is_bare leaf ≡ false
leaf_takes leaf has = form_takes leaf.schema (out-Schema leaf.schema) refl has

-- ---- reading

-- what is read of all fields, without the values that take no bytes
abbrev pub kept_of : List Leaf → Answer → Answer
kept_of leaves read = map_value (λ read. (kept_values leaves read.0, read.1)) read

-- a value that takes no bytes is left out
left_out : (leaf : Leaf) (leaves : List Leaf) (value : Datum) (read : Answer) → is_bare leaf ≡ true
    → kept_of leaves read ≡ kept_of (leaf ∷ leaves) (behind (value ∷ []) read)
unfolding kept_values
left_out leaf leaves value (Ok read) bare = rw bare refl
left_out leaf leaves value (Err e) bare = refl

-- a value that takes bytes is kept
kept_first : (leaf : Leaf) (leaves : List Leaf) (value : Datum) (read : Answer) → is_bare leaf ≡ false
    → behind (value ∷ []) (kept_of leaves read) ≡ kept_of (leaf ∷ leaves) (behind (value ∷ []) read)
unfolding kept_values
kept_first leaf leaves value (Ok read) takes = rw takes refl
kept_first leaf leaves value (Err e) takes = refl

kept_then : (leaf : Leaf) (leaves : List Leaf) (read : Result (Datum × Cursor) DatumRefusal) (others : Cursor → Answer) → is_bare leaf ≡ false
    → (read >>= λ r. behind (r.0 ∷ []) (kept_of leaves (others r.1))) ≡ kept_of (leaf ∷ leaves) (read >>= λ r. behind (r.0 ∷ []) (others r.1))
kept_then leaf leaves (Ok r) others takes = kept_first leaf leaves r.0 (others r.1) takes
kept_then leaf leaves (Err e) others takes = refl

-- a first field, and those behind it
first_behind : (leaf : Leaf) (leaves : List Leaf) (input : List ℕ) (at : Cursor)
    → fields_at (leaf_readers (leaf ∷ leaves)) [] input at ≡ (datum_at leaf.schema input at >>= λ r. behind (r.0 ∷ []) (fields_at (leaf_readers leaves) [] input r.1))
unfolding fields_at
first_behind leaf leaves input at = bind_same (datum_at leaf.schema input at) _ _ (λ r. read_behind (leaf_readers leaves) (r.0 ∷ []) input r.1)

-- the fields that are kept, if the first one is not
kept_bare : (leaf : Leaf) (leaves : List Leaf) → is_bare leaf ≡ true → kept (leaf ∷ leaves) ≡ kept leaves
unfolding kept
kept_bare leaf leaves bare = rw bare refl

-- the same if it is
kept_takes : (leaf : Leaf) (leaves : List Leaf) → is_bare leaf ≡ false → kept (leaf ∷ leaves) ≡ leaf ∷ kept leaves
unfolding kept
kept_takes leaf leaves takes = rw takes refl

kept_none : (input : List ℕ) (at : Cursor) → fields_at (leaf_readers (kept [])) [] input at ≡ kept_of [] (fields_at (leaf_readers []) [] input at)
unfolding fields_at kept kept_values
kept_none input at = refl

-- reading the fields that are kept is reading all
pub kept_read : (leaves : List Leaf) (input : List ℕ) (at : Cursor)
    → fields_at (leaf_readers (kept leaves)) [] input at ≡ kept_of leaves (fields_at (leaf_readers leaves) [] input at)
kept_read [] input at = kept_none input at
kept_read (leaf ∷ leaves) input at =
    elim (cases_Bool (is_bare leaf)) [
      | inl bare ↦
          let nothing = bare_reads leaf bare input at in
          ap (λ (ls : List Leaf). fields_at (leaf_readers ls) [] input at) (kept_bare leaf leaves bare)
          ∙ kept_read leaves input at
          ∙ left_out leaf leaves nothing.value (fields_at (leaf_readers leaves) [] input at) bare
          ∙ ap (λ r. kept_of (leaf ∷ leaves) (r >>= λ r. behind (r.0 ∷ []) (fields_at (leaf_readers leaves) [] input r.1))) (sym nothing.is)
          ∙ ap (kept_of (leaf ∷ leaves)) (sym (first_behind leaf leaves input at))
      | inr takes ↦
          ap (λ (ls : List Leaf). fields_at (leaf_readers ls) [] input at) (kept_takes leaf leaves takes)
          ∙ first_behind leaf (kept leaves) input at
          ∙ bind_same (datum_at leaf.schema input at) _ _ (λ r. ap (behind (r.0 ∷ [])) (kept_read leaves input r.1))
          ∙ kept_then leaf leaves (datum_at leaf.schema input at) (λ a. fields_at (leaf_readers leaves) [] input a) takes
          ∙ ap (kept_of (leaf ∷ leaves)) (sym (first_behind leaf leaves input at))
    ]

-- ---- places

-- a place that is there
abbrev some_place : ℕ → Option ℕ
some_place place = Some place

-- a field that is there
abbrev some_field : Leaf → Option Leaf
some_field field = Some field

-- there is one alike
pub some_is : (a b : Leaf) → some_field a ≡ some_field b → a ≡ b
some_is a b is = cc

-- a field that takes bytes stands at its slot, and so does its value
pub record IsKept (fields : List Leaf) (values : List Datum) (many index : ℕ) (field : Leaf) : Type 0 where
  pub place : ℕ
  pub slot : get_or (slots many fields) index None ≡ Some (many + place)
  pub there : slice_get (kept fields) place ≡ Some field
  pub same : slice_get (kept_values fields values) place ≡ slice_get values index

-- the values behind the first one
abbrev tail : List Datum → List Datum
tail [] = []
tail (value ∷ values) = values

-- the first field
kept_here : (first : Leaf) (fields : List Leaf) (values : List Datum) (many : ℕ) → is_bare first ≡ false → IsKept (first ∷ fields) values many 0 first
unfolding kept kept_values slots
kept_here first fields [] many takes = record {
  place = 0;
  slot = rw takes (ap (λ (n : ℕ). some_place n) (omega arith));
  there = rw takes refl;
  same = refl;
}
kept_here first fields (value ∷ values) many takes = record {
  place = 0;
  slot = rw takes (ap (λ (n : ℕ). some_place n) (omega arith));
  there = rw takes refl;
  same = rw takes refl;
}

-- one behind a first field that takes no bytes
kept_later : (first : Leaf) (fields : List Leaf) (values : List Datum) (many index : ℕ) (field : Leaf) → is_bare first ≡ true
    → IsKept fields (tail values) many index field → IsKept (first ∷ fields) values many (suc index) field
unfolding kept kept_values slots
kept_later first fields [] many index field bare inner = record {
  place = inner.place;
  slot = rw bare inner.slot;
  there = rw bare inner.there;
  same = refl;
}
kept_later first fields (value ∷ values) many index field bare inner = record {
  place = inner.place;
  slot = rw bare inner.slot;
  there = rw bare inner.there;
  same = rw bare inner.same;
}

-- one behind a first field that takes bytes
kept_behind : (first : Leaf) (fields : List Leaf) (values : List Datum) (many index : ℕ) (field : Leaf) → is_bare first ≡ false
    → IsKept fields (tail values) (many + 1) index field → IsKept (first ∷ fields) values many (suc index) field
unfolding kept kept_values slots
kept_behind first fields [] many index field takes inner = record {
  place = suc inner.place;
  slot = rw takes (inner.slot ∙ ap (λ (n : ℕ). some_place n) (omega arith));
  there = rw takes inner.there;
  same = refl;
}
kept_behind first fields (value ∷ values) many index field takes inner = record {
  place = suc inner.place;
  slot = rw takes (inner.slot ∙ ap (λ (n : ℕ). some_place n) (omega arith));
  there = rw takes inner.there;
  same = rw takes inner.same;
}

pub is_kept : (fields : List Leaf) (values : List Datum) (many index : ℕ) (field : Leaf) → slice_get fields index ≡ Some field → is_bare field ≡ false → IsKept fields values many index field
is_kept [] values many index field there takes = absurd cc
is_kept (first ∷ fields) values many zero field there takes =
    let same : first ≡ field = some_is first field there in
    subst (λ (f : Leaf). IsKept (first ∷ fields) values many 0 f) same (kept_here first fields values many (subst (λ (f : Leaf). is_bare f ≡ false) (sym same) takes))
is_kept (first ∷ fields) values many (suc index) field there takes =
    elim (cases_Bool (is_bare first)) [
      | inl bare ↦ kept_later first fields values many index field bare (is_kept fields (tail values) many index field there takes)
      | inr not ↦ kept_behind first fields values many index field not (is_kept fields (tail values) (many + 1) index field there takes)
    ]

-- the slot of a field that takes bytes
pub slot_is : (fields : List Leaf) (values : List Datum) (index : ℕ) (field : Leaf) (k : IsKept fields values 0 index field) → get_or (slots 0 fields) index None ≡ Some k.place
slot_is fields values index field k =
    let same : 0 + k.place ≡ k.place = omega arith in
    k.slot ∙ ap some_place same
