-- What is spelled fits.
use Rattle.std.proofs.Common.{◌≡◌, ℕ, zero, suc, ◌-◌, ◌/◌, ◌%◌, ◌^◌, ◌≤◌, pos, Bool, true, List, [], ◌∷◌, length, map}
use Rattle.std.proofs.Common.{inl, inr, refl, sym, ap, subst, ◌∙◌, arith}
use Rattle.std.specs.Prelude.{nat_lt}
use Rattle.std.specs.List.{list_all, flat_map}
use Rattle.std.proofs.lemmas.Bool.{cases_lt, lt-ltb, le-ltb, eq-eqb}
use Rattle.std.proofs.lemmas.List.Folds.{list_all-append}
use Rattle.avro_wire.specs.Number.{int, unzigzag, groups_value, SpellsNumber}
use Rattle.avro_wire.specs.Blocks.{SpellsItems, SpellsBlocks, SpellsList}
use Rattle.schema_tree.specs.declared.schema.Schema.{Schema, roll-Schema}
use Rattle.schema_tree.specs.declared.schema.Field.{Field, roll-Field}
use Rattle.schema_tree.specs.declared.schema.Schema.TheOpen as layers
use Rattle.schema_tree.specs.declared.schema.Schema.TheOpen.{Schema-F, Field-F, Null, Boolean, Int, Long, Float}
use Rattle.schema_tree.specs.declared.schema.Schema.TheOpen.{Double, Raw, Str, Fixed, Enum, Rec, Array, Map, Union}
use Rattle.schema_tree.specs.declared.schema.Schema.TheFolds.{map-Schema, map-Field, fold-roll-Field, ind-Schema}
use Rattle.datum_tree.specs.declared.datum.Datum.{Datum, out-Datum}
use Rattle.datum_tree.specs.declared.datum.Datum.TheVariants as datums
use Rattle.datum_tree.specs.Spelling.{Spelling, spelling_of, SpellsEach, SpellsBranch, SpellsPair, Spells}
use Rattle.datum_tree.specs.Spelling.{SpellsField, IsEncoding}
use Rattle.datum_tree.specs.Value.{items_in, most_items}
use Rattle.datum_tree.specs.Fits.{Test, is_signed, fits_each, fits_branch, fits_level, fits_of, field_test}
use Rattle.datum_tree.specs.Fits.{fits_schema, field_fits, fits}
use Rattle.datum_tree.specs.FitsEquations.{fits_rolled}
use Rattle.datum_tree.specs.SpellingLaws.{spells_layer, spells_field}

-- whatever is spelled under the schema is one of it
abbrev WhatFits : Schema → Type 0
WhatFits schema = (datum : Datum) (bytes : List ℕ) → Spells schema datum bytes → fits_schema schema datum ≡ true

-- the same of a field
abbrev WhatFitsField : Field → Type 0
WhatFitsField field = (datum : Datum) (bytes : List ℕ) → SpellsField field datum bytes → field_fits field datum ≡ true

abbrev Good : Type 0
Good = (schema : Schema) × WhatFits schema

abbrev GoodField : Type 0
GoodField = (field : Field) × WhatFitsField field

-- ---- numbers

-- what stands for a number of 32 bits
int_signed : (n : ℕ) → n ≤ 2 ^ 32 - 1 → is_signed 31 (unzigzag n) ≡ true
int_signed n few =
    elim (cases_lt (n % 2) 1) [
      | inl even ↦ let none : n % 2 ≡ 0 = omega arith in rw none (lt-ltb (n / 2) (2 ^ 31) (omega arith))
      | inr odd ↦ let one : n % 2 ≡ 1 = omega arith in rw (one, le-ltb (2 ^ 31 - 1) (n / 2) (omega arith)) refl
    ]

-- what stands for a number of 64 bits
long_signed : (n : ℕ) → n ≤ 2 ^ 64 - 1 → is_signed 63 (unzigzag n) ≡ true
long_signed n few =
    elim (cases_lt (n % 2) 1) [
      | inl even ↦ let none : n % 2 ≡ 0 = omega arith in rw none (lt-ltb (n / 2) (2 ^ 63) (omega arith))
      | inr odd ↦ let one : n % 2 ≡ 1 = omega arith in rw (one, le-ltb (2 ^ 63 - 1) (n / 2) (omega arith)) refl
    ]

-- a place that is spelled is an int
place_low : (place : ℕ) (bytes : List ℕ) → SpellsNumber int bytes (pos place) → nat_lt place (2 ^ 31) ≡ true
place_low place bytes spelled = ap (is_signed 31) spelled.value_is ∙ int_signed (groups_value bytes) spelled.fits

-- ---- items and fields

-- items that are spelled pass a test that each one passes
items_fit : {A : Type 0} (SpellsItem : A → List ℕ → Type 0) (test : A → Bool)
    → ((item : A) (bytes : List ℕ) → SpellsItem item bytes → test item ≡ true) → (items : List A) (bytes : List ℕ)
    → SpellsItems SpellsItem items bytes → list_all test items ≡ true
items_fit SpellsItem test passes [] bytes spelled = refl
items_fit SpellsItem test passes (item ∷ items) bytes spelled =
    rw (passes item spelled.front spelled.first, items_fit SpellsItem test passes items spelled.rest spelled.second)
    refl

-- and so do those of blocks
blocks_fit : {A : Type 0} (SpellsItem : A → List ℕ → Type 0) (test : A → Bool)
    → ((item : A) (bytes : List ℕ) → SpellsItem item bytes → test item ≡ true) → (blocks : List (List A))
    (bytes : List ℕ) → SpellsBlocks SpellsItem blocks bytes
    → list_all test (flat_map (λ items. items) blocks) ≡ true
blocks_fit SpellsItem test passes [] bytes spelled = refl
blocks_fit SpellsItem test passes (items ∷ blocks) bytes spelled =
    let rest = blocks_fit SpellsItem test passes blocks spelled.rest spelled.second in
    let first : list_all test items ≡ true = elim spelled.first [
      | inl counted ↦ items_fit SpellsItem test passes items counted.parts.rest counted.parts.second
      | inr sized ↦ items_fit SpellsItem test passes items sized.spelled sized.spells
    ] in
    list_all-append test items (flat_map (λ items. items) blocks) ∙ rw (first, rest) refl

-- and those of a list
list_fits : {A : Type 0} (SpellsItem : A → List ℕ → Type 0) (test : A → Bool)
    → ((item : A) (bytes : List ℕ) → SpellsItem item bytes → test item ≡ true) → (items : List A) (bytes : List ℕ)
    → SpellsList SpellsItem items bytes → list_all test items ≡ true
list_fits SpellsItem test passes items bytes spelled =
    ap (list_all test) (sym spelled.together) ∙ blocks_fit SpellsItem test passes spelled.blocks bytes spelled.spelled

-- the values of fields
each_fit : (fields : List GoodField) (values : List Datum) (bytes : List ℕ)
    → SpellsEach SpellsField (map (λ e. e.0) fields) values bytes
    → fits_each (map field_fits (map (λ e. e.0) fields)) values ≡ true
each_fit [] [] bytes spelled = refl
each_fit [] (value ∷ values) bytes spelled = absurd spelled
each_fit (field ∷ fields) [] bytes spelled = absurd spelled
each_fit (field ∷ fields) (value ∷ values) bytes spelled =
    rw (field.1 value spelled.front spelled.first, each_fit fields values spelled.rest spelled.second) refl

-- the value of a branch
branch_fit : (branches : List Good) (place : ℕ) (inside : Datum) (bytes : List ℕ)
    → SpellsBranch Spells (map (λ e. e.0) branches) place inside bytes
    → fits_branch (map fits_schema (map (λ e. e.0) branches)) place inside ≡ true
branch_fit [] place inside bytes spelled = absurd spelled
branch_fit (branch ∷ branches) zero inside bytes spelled = branch.1 inside bytes spelled
branch_fit (branch ∷ branches) (suc place) inside bytes spelled = branch_fit branches place inside bytes spelled

-- ---- schemas

-- what a layer spells is tested by that layer
opened : (layer : Schema-F Schema Field)
    → ((datum : Datum) (bytes : List ℕ) → spelling_of Schema Field (λ y. y) (λ y. y) Spells SpellsField layer datum bytes → fits_level (map-Schema Schema Field Test Test fits_schema field_fits layer) (out-Datum datum) ≡ true)
    → WhatFits (roll-Schema layer)
opened layer passes datum bytes spelled =
    fits_rolled layer datum
    ∙ passes datum bytes (subst (λ (S : Spelling). S datum bytes) (spells_layer layer) spelled)

-- of a layer of good schemas
layer_fits : (layer : Schema-F Good GoodField)
    → WhatFits (roll-Schema (map-Schema Good GoodField Schema Field (λ e. e.0) (λ e. e.0) layer))
layer_fits Null =
    opened layers.Null
    (λ datum bytes spelled. ap (fits_level layers.Null) (ap out-Datum spelled.0 ∙ datums.outs-Null))
layer_fits Boolean =
    opened layers.Boolean
    (λ datum bytes spelled. ap (fits_level layers.Boolean) (ap out-Datum spelled.value ∙ datums.outs-Flag spelled.flag))
layer_fits (Int logical) = opened (layers.Int logical) (λ datum bytes spelled.
    ap (fits_level (layers.Int logical)) (ap out-Datum spelled.value ∙ datums.outs-Num spelled.number) ∙ (ap (is_signed 31) spelled.spelled.value_is ∙ int_signed (groups_value bytes) spelled.spelled.fits))
layer_fits (Long logical) = opened (layers.Long logical) (λ datum bytes spelled.
    ap (fits_level (layers.Long logical)) (ap out-Datum spelled.value ∙ datums.outs-Num spelled.number) ∙ (ap (is_signed 63) spelled.spelled.value_is ∙ long_signed (groups_value bytes) spelled.spelled.fits))
layer_fits Float =
    opened layers.Float
    (λ datum bytes spelled. ap (fits_level layers.Float) (ap out-Datum spelled.value ∙ datums.outs-Raw bytes) ∙ eq-eqb (length bytes) 4 spelled.many)
layer_fits Double =
    opened layers.Double
    (λ datum bytes spelled. ap (fits_level layers.Double) (ap out-Datum spelled.value ∙ datums.outs-Raw bytes) ∙ eq-eqb (length bytes) 8 spelled.many)
layer_fits Raw =
    opened layers.Raw
    (λ datum bytes spelled. ap (fits_level layers.Raw) (ap out-Datum spelled.value ∙ datums.outs-Raw spelled.inside))
layer_fits Str =
    opened layers.Str
    (λ datum bytes spelled. ap (fits_level layers.Str) (ap out-Datum spelled.value ∙ datums.outs-Str spelled.text))
layer_fits (Fixed name size) =
    opened (layers.Fixed name size)
    (λ datum bytes spelled. ap (fits_level (layers.Fixed name size)) (ap out-Datum spelled.value ∙ datums.outs-Raw bytes) ∙ eq-eqb (length bytes) size spelled.many)
layer_fits (Enum name symbols) = opened (layers.Enum name symbols) (λ datum bytes spelled.
    ap (fits_level (layers.Enum name symbols)) (ap out-Datum spelled.value ∙ datums.outs-Num (pos spelled.place)) ∙ rw (lt-ltb spelled.place (length symbols) spelled.within, place_low spelled.place bytes spelled.spelled) refl)
layer_fits (Rec name fields) = opened (layers.Rec name (map (λ e. e.0) fields)) (λ datum bytes spelled.
    ap (fits_level (layers.Rec name (map field_fits (map (λ e. e.0) fields)))) (ap out-Datum spelled.value ∙ datums.outs-Rec spelled.values) ∙ each_fit fields spelled.values bytes spelled.spelled)
layer_fits (Array items element_id keyed) = opened (layers.Array items.0 element_id keyed) (λ datum bytes spelled.
    ap (fits_level (layers.Array (fits_schema items.0) element_id keyed)) (ap out-Datum spelled.value ∙ datums.outs-Array spelled.items) ∙ list_fits (Spells items.0) (fits_schema items.0) items.1 spelled.items bytes spelled.spelled)
layer_fits (Map values key_id value_id) = opened (layers.Map values.0 key_id value_id) (λ datum bytes spelled.
    ap (fits_level (layers.Map (fits_schema values.0) key_id value_id)) (ap out-Datum spelled.value ∙ datums.outs-Map spelled.pairs)
    ∙ list_fits (SpellsPair (Spells values.0)) (λ (pair : List ℕ × Datum). fits_schema values.0 pair.1) (λ pair parts whole. values.1 pair.1 whole.rest whole.second) spelled.pairs bytes spelled.spelled)
layer_fits (Union branches) = opened (layers.Union (map (λ e. e.0) branches)) (λ datum bytes spelled.
    ap (fits_level (layers.Union (map fits_schema (map (λ e. e.0) branches)))) (ap out-Datum spelled.value ∙ datums.outs-Branch spelled.place spelled.inside)
    ∙ rw (place_low spelled.place spelled.spelled.front spelled.spelled.first, branch_fit branches spelled.place spelled.inside spelled.spelled.rest spelled.spelled.second) refl)

-- of a field of a good schema
field_fits_so : (layer : Field-F Good GoodField)
    → WhatFitsField (roll-Field (map-Field Good GoodField Schema Field (λ e. e.0) (λ e. e.0) layer))
field_fits_so layer datum bytes spelled =
    let field : Field-F Schema Field = map-Field Good GoodField Schema Field (λ e. e.0) (λ e. e.0) layer in
    ap (λ (test : Test). test datum) (fold-roll-Field Test Test fits_of field_test field) ∙ layer.schema.1 datum bytes (subst (λ (S : Spelling). S datum bytes) (spells_field (roll-Field field)) spelled)

-- whatever is spelled under a schema is one of it
pub what_fits : (schema : Schema) → WhatFits schema
what_fits = ind-Schema WhatFits WhatFitsField
    (λ x y is. subst (λ (layer : Schema-F Schema Field). WhatFits (roll-Schema layer)) is (layer_fits y))
    (λ x y is. subst (λ (layer : Field-F Schema Field). WhatFitsField (roll-Field layer)) is (field_fits_so y))

-- and fits, where it has few enough items
pub encoding_fits : (schema : Schema) (datum : Datum) (bytes : List ℕ) → IsEncoding schema datum bytes
    → fits schema datum ≡ true
encoding_fits schema datum bytes encoding =
    rw (what_fits schema datum bytes encoding.spelled, le-ltb most_items (items_in datum) encoding.few) refl
