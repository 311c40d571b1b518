-- That the bytes which are written spell the value, for each kind of schema.
use Rattle.std.proofs.Common.{◌≡◌, ℕ, zero, suc, ◌-◌, ◌^◌, ◌<◌, ◌≤◌, ℤ, pos, negsuc, Bool, true, ◌&&◌, ◌==◌, List, []}
use Rattle.std.proofs.Common.{◌∷◌, ◌++◌, length, map, get_or, not, inl, inr, Option, refl, sym, ap, subst, ◌∙◌, arith}
use Rattle.std.specs.Prelude.{IfSome, nat_lt}
use Rattle.std.specs.List.{All, list_all}
use Rattle.std.proofs.lemmas.Bool.{cases_lt, lt-ltb, ltb-true, eqb-true}
use Rattle.std.proofs.lemmas.Int.{ints}
use Rattle.std.proofs.lemmas.List.Sums.{AllPass-from_list_all}
use Rattle.avro_wire.specs.Number.{long, int, SpellsNumber}
use Rattle.avro_wire.specs.Writing.{number_text, bytes_text, list_text}
use Rattle.avro_wire.specs.WritingLaws.{long_spelled as long_number_spelled, int_spelled as int_number_spelled}
use Rattle.avro_wire.specs.WritingLaws.{bytes_spelled, list_spelled}
use Rattle.schema_tree.specs.declared.logical.Logical.{Logical}
use Rattle.schema_tree.specs.declared.schema.Schema.{Schema, roll-Schema}
use Rattle.schema_tree.specs.declared.schema.Field.{Field}
use Rattle.schema_tree.specs.declared.schema.Schema.TheOpen as layers
use Rattle.schema_tree.specs.declared.schema.Schema.TheOpen.{Schema-F}
use Rattle.schema_tree.specs.declared.schema.Schema.TheVariants as schemas
use Rattle.schema_tree.specs.declared.schema.Schema.TheFolds.{fold_out-Field}
use Rattle.datum_tree.specs.declared.datum.Datum.{Datum, out-Datum}
use Rattle.datum_tree.specs.declared.datum.Datum.TheVariants as datums
use Rattle.datum_tree.specs.Spelling.{Spelling, spelling_of, SpellsEach, SpellsBranch, SpellsPair, flag_byte, Spells}
use Rattle.datum_tree.specs.Spelling.{SpellsField}
use Rattle.datum_writing.specs.Canonical.{each_text, pair_text, branch_text, canonical, field_canonical}
use Rattle.datum_tree.specs.Fits.{Test, is_signed, is_place, fits_each, fits_branch, fits_of, field_test, fits_schema}
use Rattle.datum_tree.specs.Fits.{field_fits}
use Rattle.datum_tree.specs.Kinds.{flag_in, number_in, raw_in, text_in, fields_in, array_in, pairs_in, branch_in}
use Rattle.datum_tree.specs.Kinds.{text_if}
use Rattle.datum_writing.specs.Spelled.{IsSpelled, IsSized, IsSizedText, EachIsSpelled, PairIsSpelled, AllAreSpelled}
use Rattle.datum_writing.specs.Spelled.{BranchIsSpelled}
use Rattle.datum_tree.specs.KindLaws.{is_flag, is_number, is_raw, is_text, is_fields, is_array, is_pairs, is_branch}
use Rattle.datum_tree.specs.KindLaws.{is_null_value, there, both, false_is_not_true}
use Rattle.datum_tree.specs.FitsEquations.{fits_field, null_fits, boolean_fits, int_fits, long_fits, float_fits}
use Rattle.datum_tree.specs.FitsEquations.{double_fits, bytes_fits, string_fits, fixed_fits, enum_fits, record_fits}
use Rattle.datum_tree.specs.FitsEquations.{array_fits, map_fits, union_fits}
use Rattle.datum_writing.proofs.WritingEquations.{null_written, boolean_written, int_written, long_written}
use Rattle.datum_writing.proofs.WritingEquations.{float_written, double_written, bytes_written, string_written}
use Rattle.datum_writing.proofs.WritingEquations.{fixed_written, enum_written, record_written, array_written}
use Rattle.datum_writing.proofs.WritingEquations.{map_written, union_written}
use Rattle.datum_writing.proofs.PutLemmas.{field_written}
use Rattle.datum_tree.specs.SpellingLaws.{spells_layer, spells_field}

-- what a layer says, of the schema that it makes
pub to_spells : (layer : Schema-F Schema Field) (schema : Schema) → roll-Schema layer ≡ schema → (datum : Datum) (bytes : List ℕ)
    → spelling_of Schema Field (λ y. y) (λ y. y) Spells SpellsField layer datum bytes → Spells schema datum bytes
to_spells layer schema rolls datum bytes spelled =
    subst (λ (s : Schema). Spells s datum bytes) rolls (subst (λ (S : Spelling). S datum bytes) (sym (spells_layer layer)) spelled)

-- ---- numbers

-- a number below 0 that is no lower than the lowest
not_lower : (n m : ℕ) → (not (nat_lt m n) && true) ≡ true → n ≤ m
not_lower n m fits =
    elim (cases_lt m n) [
      | inl lower ↦ let no = rw (lt-ltb m n lower) at fits in absurd (false_is_not_true no)
      | inr within ↦ within
    ]

-- a number of 64 bits
long_in : (number : ℤ) → is_signed 63 number ≡ true → SpellsNumber long (number_text number) number
long_in (pos n) fits = let below : n < 2 ^ 63 = ltb-true n (2 ^ 63) fits in long_number_spelled (pos n) (omega (arith, ints)) (omega (arith, ints))
long_in (negsuc n) fits = let low : n ≤ 2 ^ 63 - 1 = not_lower n (2 ^ 63 - 1) fits in long_number_spelled (negsuc n) (omega (arith, ints)) (omega (arith, ints))

-- a number of 32 bits
int_in : (number : ℤ) → is_signed 31 number ≡ true → SpellsNumber int (number_text number) number
int_in (pos n) fits = let below : n < 2 ^ 31 = ltb-true n (2 ^ 31) fits in int_number_spelled (pos n) (omega (arith, ints)) (omega (arith, ints))
int_in (negsuc n) fits = let low : n ≤ 2 ^ 31 - 1 = not_lower n (2 ^ 31 - 1) fits in int_number_spelled (negsuc n) (omega (arith, ints)) (omega (arith, ints))

-- ---- schemas that hold no other

-- the null
pub null_spelled : (datum : Datum) → IsSpelled schemas.Null datum
null_spelled datum = record { spells = λ fits. to_spells layers.Null schemas.Null schemas.rolls-Null datum _ (is_null_value datum (sym (null_fits datum) ∙ fits), null_written datum) }

-- a truth value
pub boolean_spelled : (datum : Datum) → IsSpelled schemas.Boolean datum
boolean_spelled datum = record {
  spells = λ fits.
      let found = there (λ (flag : Bool). true) (flag_in (out-Datum datum)) (sym (boolean_fits datum) ∙ fits) in
      to_spells layers.Boolean schemas.Boolean schemas.rolls-Boolean datum _ (record { flag = found.value; value = is_flag datum found.value found.is; spelled = boolean_written datum ∙ ap (text_if (λ flag. flag_byte flag ∷ [])) found.is });
}

-- an int
pub int_spelled : (logical : Logical) (datum : Datum) → IsSpelled (schemas.Int logical) datum
int_spelled logical datum = record {
  spells = λ fits.
      let found = there (is_signed 31) (number_in (out-Datum datum)) (sym (int_fits logical datum) ∙ fits) in
      let text : canonical (schemas.Int logical) datum ≡ number_text found.value = int_written logical datum ∙ ap (text_if number_text) found.is in
      to_spells (layers.Int logical) (schemas.Int logical) (schemas.rolls-Int logical) datum _ (record { number = found.value; value = is_number datum found.value found.is; spelled = rw text (int_in found.value found.passes) });
}

-- a long
pub long_spelled : (logical : Logical) (datum : Datum) → IsSpelled (schemas.Long logical) datum
long_spelled logical datum = record {
  spells = λ fits.
      let found = there (is_signed 63) (number_in (out-Datum datum)) (sym (long_fits logical datum) ∙ fits) in
      let text : canonical (schemas.Long logical) datum ≡ number_text found.value = long_written logical datum ∙ ap (text_if number_text) found.is in
      to_spells (layers.Long logical) (schemas.Long logical) (schemas.rolls-Long logical) datum _ (record { number = found.value; value = is_number datum found.value found.is; spelled = rw text (long_in found.value found.passes) });
}

-- a float
pub float_spelled : (datum : Datum) → IsSpelled schemas.Float datum
float_spelled datum = record {
  spells = λ fits.
      let found = there (λ (bytes : List ℕ). length bytes == 4) (raw_in (out-Datum datum)) (sym (float_fits datum) ∙ fits) in
      let text : canonical schemas.Float datum ≡ found.value = float_written datum ∙ ap (text_if (λ (bytes : List ℕ). bytes)) found.is in
      to_spells layers.Float schemas.Float schemas.rolls-Float datum _ (record { value = is_raw datum found.value found.is ∙ ap datums.Raw (sym text); many = ap length text ∙ eqb-true (length found.value) 4 found.passes });
}

-- a double
pub double_spelled : (datum : Datum) → IsSpelled schemas.Double datum
double_spelled datum = record {
  spells = λ fits.
      let found = there (λ (bytes : List ℕ). length bytes == 8) (raw_in (out-Datum datum)) (sym (double_fits datum) ∙ fits) in
      let text : canonical schemas.Double datum ≡ found.value = double_written datum ∙ ap (text_if (λ (bytes : List ℕ). bytes)) found.is in
      to_spells layers.Double schemas.Double schemas.rolls-Double datum _ (record { value = is_raw datum found.value found.is ∙ ap datums.Raw (sym text); many = ap length text ∙ eqb-true (length found.value) 8 found.passes });
}

-- a fixed
pub fixed_spelled : (name : List ℕ) (size : ℕ) (datum : Datum) → IsSpelled (schemas.Fixed name size) datum
fixed_spelled name size datum = record {
  spells = λ fits.
      let found = there (λ (bytes : List ℕ). length bytes == size) (raw_in (out-Datum datum)) (sym (fixed_fits name size datum) ∙ fits) in
      let text : canonical (schemas.Fixed name size) datum ≡ found.value = fixed_written name size datum ∙ ap (text_if (λ (bytes : List ℕ). bytes)) found.is in
      to_spells (layers.Fixed name size) (schemas.Fixed name size) (schemas.rolls-Fixed name size) datum _ (record { value = is_raw datum found.value found.is ∙ ap datums.Raw (sym text); many = ap length text ∙ eqb-true (length found.value) size found.passes });
}

-- bytes
pub bytes_spelled_so : (datum : Datum) → IfSome (raw_in (out-Datum datum)) IsSized → IsSpelled schemas.Raw datum
bytes_spelled_so datum sized = record {
  spells = λ fits.
      let found = there (λ (bytes : List ℕ). true) (raw_in (out-Datum datum)) (sym (bytes_fits datum) ∙ fits) in
      let text : canonical schemas.Raw datum ≡ bytes_text found.value = bytes_written datum ∙ ap (text_if bytes_text) found.is in
      let small : IsSized found.value = subst (λ (seen : Option (List ℕ)). IfSome seen IsSized) found.is sized in
      to_spells layers.Raw schemas.Raw schemas.rolls-Raw datum _ (record { inside = found.value; value = is_raw datum found.value found.is; spelled = rw text (bytes_spelled found.value small) });
}

-- a string
pub string_spelled : (datum : Datum) → IfSome (text_in (out-Datum datum)) IsSizedText → IsSpelled schemas.Str datum
string_spelled datum sized = record {
  spells = λ fits.
      let found = there (λ (text : List ℕ). true) (text_in (out-Datum datum)) (sym (string_fits datum) ∙ fits) in
      let text : canonical schemas.Str datum ≡ bytes_text found.value = string_written datum ∙ ap (text_if bytes_text) found.is in
      let small : IsSizedText found.value = subst (λ (seen : Option (List ℕ)). IfSome seen IsSizedText) found.is sized in
      to_spells layers.Str schemas.Str schemas.rolls-Str datum _ (record { text = found.value; value = is_text datum found.value found.is; spelled = record { is_text = small.1; spelled = rw text (bytes_spelled found.value small.0) } });
}

-- which of so many symbols
record IsSymbol (many : ℕ) (number : ℤ) : Type 0 where
  place : ℕ
  is : number ≡ pos place
  within : place < many
  low : place < 2 ^ 31

symbol_in : (many : ℕ) (number : ℤ) → is_place many number ≡ true → IsSymbol many number
symbol_in many (pos place) fits =
    let tests = both (nat_lt place many) (nat_lt place (2 ^ 31)) fits in
    record { place = place; is = refl; within = ltb-true place many tests.0; low = ltb-true place (2 ^ 31) tests.1 }
symbol_in many (negsuc n) fits = absurd (false_is_not_true fits)

-- a place that is an int
place_spelled : (place : ℕ) → place < 2 ^ 31 → SpellsNumber int (number_text (pos place)) (pos place)
place_spelled place low = int_number_spelled (pos place) (omega (arith, ints)) (omega (arith, ints))

-- an enum
pub enum_spelled : (name : List ℕ) (symbols : List (List ℕ)) (datum : Datum) → IsSpelled (schemas.Enum name symbols) datum
enum_spelled name symbols datum = record {
  spells = λ fits.
      let found = there (is_place (length symbols)) (number_in (out-Datum datum)) (sym (enum_fits name symbols datum) ∙ fits) in
      let symbol = symbol_in (length symbols) found.value found.passes in
      let text : canonical (schemas.Enum name symbols) datum ≡ number_text (pos symbol.place) = enum_written name symbols datum ∙ (ap (text_if number_text) found.is ∙ ap number_text symbol.is) in
      to_spells (layers.Enum name symbols) (schemas.Enum name symbols) (schemas.rolls-Enum name symbols) datum _ (record {
        place = symbol.place;
        within = symbol.within;
        value = is_number datum found.value found.is ∙ ap datums.Num symbol.is;
        spelled = rw text
            (place_spelled symbol.place symbol.low);
      });
}

-- ---- schemas that hold others

-- a record's fields: what spells each one's value spells them all
each_spelled : (fields : List Field) (values : List Datum) → fits_each (map field_fits fields) values ≡ true → EachIsSpelled fields values
    → SpellsEach SpellsField fields values (each_text (map field_canonical fields) values)
each_spelled [] [] fits each = refl
each_spelled [] (value ∷ values) fits each = absurd (false_is_not_true fits)
each_spelled (field ∷ fields) [] fits each = absurd (false_is_not_true fits)
each_spelled (field ∷ fields) (value ∷ values) fits each =
    let good = both (field_fits field value) (fits_each (map field_fits fields) values) fits in
    let first : Spells field.schema value (canonical field.schema value) = each.0.spells (sym (fits_field field value) ∙ good.0) in
    record {
      front = field_canonical field value;
      rest = each_text (map field_canonical fields) values;
      parts = refl;
      first = rw (spells_field field, field_written field value) first;
      second = each_spelled fields values good.1 each.1;
    }

-- a record
pub record_spelled : (name : List ℕ) (fields : List Field) (datum : Datum) → IfSome (fields_in (out-Datum datum)) (EachIsSpelled fields) → IsSpelled (schemas.Rec name fields) datum
record_spelled name fields datum each = record {
  spells = λ fits.
      let found = there (fits_each (map field_fits fields)) (fields_in (out-Datum datum)) (sym (record_fits name fields datum) ∙ fits) in
      let text : canonical (schemas.Rec name fields) datum ≡ each_text (map field_canonical fields) found.value = record_written name fields datum ∙ ap (text_if (each_text (map field_canonical fields))) found.is in
      let those : EachIsSpelled fields found.value = subst (λ (seen : Option (List Datum)). IfSome seen (EachIsSpelled fields)) found.is each in
      let spelled = each_spelled fields found.value found.passes those in
      to_spells (layers.Rec name fields) (schemas.Rec name fields) (schemas.rolls-Rec name fields) datum _ (record { values = found.value; value = is_fields datum found.value found.is; spelled = rw text spelled });
}

-- items that fit and are spelled
items_good : (schema : Schema) (items : List Datum) → list_all (fits_schema schema) items ≡ true → All (IsSpelled schema) items → All (λ item. Spells schema item (canonical schema item)) items
items_good schema items fits each = λ k d within. (each k d within).spells (AllPass-from_list_all (fits_schema schema) items fits k d within)

-- an array
pub array_spelled : (items : Schema) (element_id : Option ℤ) (keyed : Bool) (datum : Datum) → IfSome (array_in (out-Datum datum)) (AllAreSpelled (IsSpelled items)) → IsSpelled (schemas.Array items element_id keyed) datum
array_spelled items element_id keyed datum each = record {
  spells = λ fits.
      let found = there (list_all (fits_schema items)) (array_in (out-Datum datum)) (sym (array_fits items element_id keyed datum) ∙ fits) in
      let text : canonical (schemas.Array items element_id keyed) datum ≡ list_text (canonical items) found.value = array_written items element_id keyed datum ∙ ap (text_if (list_text (canonical items))) found.is in
      let those : AllAreSpelled (IsSpelled items) found.value = subst (λ (seen : Option (List Datum)). IfSome seen (AllAreSpelled (IsSpelled items))) found.is each in
      let good = items_good items found.value found.passes those.each in
      to_spells (layers.Array items element_id keyed) (schemas.Array items element_id keyed) (schemas.rolls-Array items element_id keyed) datum _
      (record { items = found.value; value = is_array datum found.value found.is; spelled = rw text (list_spelled (Spells items) (canonical items) found.value good those.few) });
}

-- pairs that fit and are spelled
pairs_good : (schema : Schema) (pairs : List (List ℕ × Datum)) → list_all (λ (pair : List ℕ × Datum). fits_schema schema pair.1) pairs ≡ true → All (PairIsSpelled schema) pairs
    → All (λ pair. SpellsPair (Spells schema) pair (pair_text (canonical schema) pair)) pairs
pairs_good schema pairs fits each = λ k d within.
    let pair = get_or pairs k d in
    let spelled = each k d within in
    let good : fits_schema schema pair.1 ≡ true = AllPass-from_list_all (λ (pair : List ℕ × Datum). fits_schema schema pair.1) pairs fits k d within in
    record {
      front = bytes_text pair.0;
      rest = canonical schema pair.1;
      parts = refl;
      first = record { is_text = spelled.0.1; spelled = bytes_spelled pair.0 spelled.0.0 };
      second = spelled.1.spells good;
    }

-- a map
pub map_spelled : (values : Schema) (key_id value_id : Option ℤ) (datum : Datum) → IfSome (pairs_in (out-Datum datum)) (AllAreSpelled (PairIsSpelled values)) → IsSpelled (schemas.Map values key_id value_id) datum
map_spelled values key_id value_id datum each = record {
  spells = λ fits.
      let found = there (list_all (λ (pair : List ℕ × Datum). fits_schema values pair.1)) (pairs_in (out-Datum datum)) (sym (map_fits values key_id value_id datum) ∙ fits) in
      let text : canonical (schemas.Map values key_id value_id) datum ≡ list_text (pair_text (canonical values)) found.value = map_written values key_id value_id datum ∙ ap (text_if (list_text (pair_text (canonical values)))) found.is in
      let those : AllAreSpelled (PairIsSpelled values) found.value = subst (λ (seen : Option (List (List ℕ × Datum))). IfSome seen (AllAreSpelled (PairIsSpelled values))) found.is each in
      let good = pairs_good values found.value found.passes those.each in
      to_spells (layers.Map values key_id value_id) (schemas.Map values key_id value_id) (schemas.rolls-Map values key_id value_id) datum _
      (record { pairs = found.value; value = is_pairs datum found.value found.is; spelled = rw text (list_spelled (SpellsPair (Spells values)) (pair_text (canonical values)) found.value good those.few) });
}

-- a value of a branch
inside_spelled : (branches : List Schema) (place : ℕ) (inside : Datum) → fits_branch (map fits_schema branches) place inside ≡ true → BranchIsSpelled branches place inside
    → SpellsBranch Spells branches place inside (branch_text (map canonical branches) place inside)
inside_spelled [] place inside fits each = absurd (false_is_not_true fits)
inside_spelled (branch ∷ branches) zero inside fits each = each.spells fits
inside_spelled (branch ∷ branches) (suc place) inside fits each = inside_spelled branches place inside fits each

-- a union
pub union_spelled : (branches : List Schema) (datum : Datum) → IfSome (branch_in (out-Datum datum)) (λ branch. BranchIsSpelled branches branch.0 branch.1) → IsSpelled (schemas.Union branches) datum
union_spelled branches datum each = record {
  spells = λ fits.
      let found = there (λ (branch : ℕ × Datum). nat_lt branch.0 (2 ^ 31) && fits_branch (map fits_schema branches) branch.0 branch.1) (branch_in (out-Datum datum)) (sym (union_fits branches datum) ∙ fits) in
      let place = found.value.0 in
      let inside = found.value.1 in
      let text : canonical (schemas.Union branches) datum ≡ number_text (pos place) ++ branch_text (map canonical branches) place inside =
      union_written branches datum ∙ ap (text_if (λ (branch : ℕ × Datum). number_text (pos branch.0) ++ branch_text (map canonical branches) branch.0 branch.1)) found.is in
      let those : BranchIsSpelled branches place inside = subst (λ (seen : Option (ℕ × Datum)). IfSome seen (λ branch. BranchIsSpelled branches branch.0 branch.1)) found.is each in
      let tests = both (nat_lt place (2 ^ 31)) (fits_branch (map fits_schema branches) place inside) found.passes in
      let low : place < 2 ^ 31 = ltb-true place (2 ^ 31) tests.0 in
      to_spells (layers.Union branches) (schemas.Union branches) (schemas.rolls-Union branches) datum _
      (record {
        place = place;
        inside = inside;
        value = is_branch datum found.value found.is;
        spelled = record { front = number_text (pos place); rest = branch_text (map canonical branches) place inside; parts = text; first = place_spelled place low; second = inside_spelled branches place inside tests.1 those };
      });
}
