-- Which values fit, for each kind of schema.
use Rattle.std.proofs.Common.{◌≡◌, ℕ, ◌^◌, ℤ, Bool, true, ◌&&◌, ◌==◌, List, length, map, Option, refl, sym, ap, ◌∙◌}
use Rattle.std.specs.Prelude.{nat_lt}
use Rattle.std.specs.List.{list_all}
use Rattle.schema_tree.specs.declared.logical.Logical.{Logical}
use Rattle.schema_tree.specs.declared.schema.Schema.{Schema, roll-Schema}
use Rattle.schema_tree.specs.declared.schema.Field.{Field}
use Rattle.schema_tree.specs.declared.schema.Schema.TheOpen as layers
use Rattle.schema_tree.specs.declared.schema.Schema.TheOpen.{Schema-F}
use Rattle.schema_tree.specs.declared.schema.Schema.TheVariants as schemas
use Rattle.schema_tree.specs.declared.schema.Schema.TheFolds.{fold-roll-Schema, map-Schema, fold_out-Field}
use Rattle.datum_tree.specs.declared.datum.Datum.{Datum, out-Datum}
use Rattle.datum_tree.specs.Fits.{Test, is_signed, is_place, fits_each, fits_branch, fits_level, fits_of, field_test}
use Rattle.datum_tree.specs.Fits.{fits_schema, field_fits}
use Rattle.datum_tree.specs.Kinds.{flag_in, number_in, raw_in, text_in, fields_in, array_in, pairs_in, branch_in}
use Rattle.datum_tree.specs.Kinds.{is_null, test_if}
use Rattle.datum_tree.specs.KindLaws.{by_kind}

-- the test of a schema that is made of a layer
pub fits_rolled : (layer : Schema-F Schema Field) (datum : Datum)
    → fits_schema (roll-Schema layer) datum
    ≡ fits_level (map-Schema Schema Field Test Test fits_schema field_fits layer) (out-Datum datum)
fits_rolled layer datum = ap (λ (f : Test). f datum) (fold-roll-Schema Test Test fits_of field_test layer)

-- the null
pub null_fits : (datum : Datum) → fits_schema schemas.Null datum ≡ is_null (out-Datum datum)
null_fits datum =
    ap (λ (s : Schema). fits_schema s datum) (sym (schemas.rolls-Null))
    ∙ (fits_rolled layers.Null datum
    ∙ by_kind (λ level. fits_level layers.Null level ≡ is_null level)
    refl (λ x. refl) (λ x. refl) (λ x. refl) (λ x. refl) (λ x y. refl) (λ x. refl) (λ x. refl) (λ x. refl)
    (out-Datum datum))

-- a boolean
pub boolean_fits : (datum : Datum) → fits_schema schemas.Boolean datum ≡ test_if (λ flag. true)
    (flag_in (out-Datum datum))
boolean_fits datum =
    ap (λ (s : Schema). fits_schema s datum) (sym (schemas.rolls-Boolean))
    ∙ (fits_rolled layers.Boolean datum
    ∙ by_kind (λ level. fits_level layers.Boolean level ≡ test_if (λ flag. true) (flag_in level))
    refl (λ x. refl) (λ x. refl) (λ x. refl) (λ x. refl) (λ x y. refl) (λ x. refl) (λ x. refl) (λ x. refl)
    (out-Datum datum))

-- an int
pub int_fits : (logical : Logical) (datum : Datum) → fits_schema (schemas.Int logical) datum ≡ test_if (is_signed 31)
    (number_in (out-Datum datum))
int_fits logical datum =
    ap (λ (s : Schema). fits_schema s datum) (sym (schemas.rolls-Int logical))
    ∙ (fits_rolled (layers.Int logical) datum
    ∙ by_kind (λ level. fits_level (layers.Int logical) level ≡ test_if (is_signed 31) (number_in level))
    refl (λ x. refl) (λ x. refl) (λ x. refl) (λ x. refl) (λ x y. refl) (λ x. refl) (λ x. refl) (λ x. refl)
    (out-Datum datum))

-- a long
pub long_fits : (logical : Logical) (datum : Datum)
    → fits_schema (schemas.Long logical) datum ≡ test_if (is_signed 63) (number_in (out-Datum datum))
long_fits logical datum =
    ap (λ (s : Schema). fits_schema s datum) (sym (schemas.rolls-Long logical))
    ∙ (fits_rolled (layers.Long logical) datum
    ∙ by_kind (λ level. fits_level (layers.Long logical) level ≡ test_if (is_signed 63) (number_in level))
    refl (λ x. refl) (λ x. refl) (λ x. refl) (λ x. refl) (λ x y. refl) (λ x. refl) (λ x. refl) (λ x. refl)
    (out-Datum datum))

-- a float
pub float_fits : (datum : Datum) → fits_schema schemas.Float datum ≡ test_if (λ bytes. length bytes == 4)
    (raw_in (out-Datum datum))
float_fits datum =
    ap (λ (s : Schema). fits_schema s datum) (sym (schemas.rolls-Float))
    ∙ (fits_rolled layers.Float datum
    ∙ by_kind (λ level. fits_level layers.Float level ≡ test_if (λ bytes. length bytes == 4) (raw_in level))
    refl (λ x. refl) (λ x. refl) (λ x. refl) (λ x. refl) (λ x y. refl) (λ x. refl) (λ x. refl) (λ x. refl)
    (out-Datum datum))

-- a double
pub double_fits : (datum : Datum) → fits_schema schemas.Double datum ≡ test_if (λ bytes. length bytes == 8)
    (raw_in (out-Datum datum))
double_fits datum =
    ap (λ (s : Schema). fits_schema s datum) (sym (schemas.rolls-Double))
    ∙ (fits_rolled layers.Double datum
    ∙ by_kind (λ level. fits_level layers.Double level ≡ test_if (λ bytes. length bytes == 8) (raw_in level))
    refl (λ x. refl) (λ x. refl) (λ x. refl) (λ x. refl) (λ x y. refl) (λ x. refl) (λ x. refl) (λ x. refl)
    (out-Datum datum))

-- bytes
pub bytes_fits : (datum : Datum) → fits_schema schemas.Raw datum ≡ test_if (λ bytes. true) (raw_in (out-Datum datum))
bytes_fits datum =
    ap (λ (s : Schema). fits_schema s datum) (sym (schemas.rolls-Raw))
    ∙ (fits_rolled layers.Raw datum
    ∙ by_kind (λ level. fits_level layers.Raw level ≡ test_if (λ bytes. true) (raw_in level))
    refl (λ x. refl) (λ x. refl) (λ x. refl) (λ x. refl) (λ x y. refl) (λ x. refl) (λ x. refl) (λ x. refl)
    (out-Datum datum))

-- a string
pub string_fits : (datum : Datum) → fits_schema schemas.Str datum ≡ test_if (λ text. true) (text_in (out-Datum datum))
string_fits datum =
    ap (λ (s : Schema). fits_schema s datum) (sym (schemas.rolls-Str))
    ∙ (fits_rolled layers.Str datum
    ∙ by_kind (λ level. fits_level layers.Str level ≡ test_if (λ text. true) (text_in level))
    refl (λ x. refl) (λ x. refl) (λ x. refl) (λ x. refl) (λ x y. refl) (λ x. refl) (λ x. refl) (λ x. refl)
    (out-Datum datum))

-- a fixed
pub fixed_fits : (name : List ℕ) (size : ℕ) (datum : Datum)
    → fits_schema (schemas.Fixed name size) datum ≡ test_if (λ bytes. length bytes == size) (raw_in (out-Datum datum))
fixed_fits name size datum =
    ap (λ (s : Schema). fits_schema s datum) (sym (schemas.rolls-Fixed name size))
    ∙ (fits_rolled (layers.Fixed name size) datum
    ∙ by_kind
    (λ level. fits_level (layers.Fixed name size) level
    ≡ test_if (λ bytes. length bytes == size) (raw_in level))
    refl (λ x. refl) (λ x. refl) (λ x. refl) (λ x. refl) (λ x y. refl) (λ x. refl) (λ x. refl) (λ x. refl)
    (out-Datum datum))

-- an enum
pub enum_fits : (name : List ℕ) (symbols : List (List ℕ)) (datum : Datum)
    → fits_schema (schemas.Enum name symbols) datum ≡ test_if (is_place (length symbols))
    (number_in (out-Datum datum))
enum_fits name symbols datum =
    ap (λ (s : Schema). fits_schema s datum) (sym (schemas.rolls-Enum name symbols))
    ∙ (fits_rolled (layers.Enum name symbols) datum
    ∙ by_kind
    (λ level. fits_level (layers.Enum name symbols) level
    ≡ test_if (is_place (length symbols)) (number_in level))
    refl (λ x. refl) (λ x. refl) (λ x. refl) (λ x. refl) (λ x y. refl) (λ x. refl) (λ x. refl) (λ x. refl)
    (out-Datum datum))

-- a record
pub record_fits : (name : List ℕ) (fields : List Field) (datum : Datum)
    → fits_schema (schemas.Rec name fields) datum ≡ test_if (fits_each (map field_fits fields))
    (fields_in (out-Datum datum))
record_fits name fields datum =
    ap (λ (s : Schema). fits_schema s datum) (sym (schemas.rolls-Rec name fields))
    ∙ (fits_rolled (layers.Rec name fields) datum
    ∙ by_kind
    (λ level. fits_level (layers.Rec name (map field_fits fields)) level
    ≡ test_if (fits_each (map field_fits fields)) (fields_in level))
    refl (λ x. refl) (λ x. refl) (λ x. refl) (λ x. refl) (λ x y. refl) (λ x. refl) (λ x. refl) (λ x. refl)
    (out-Datum datum))

-- an array
pub array_fits : (items : Schema) (element_id : Option ℤ) (keyed : Bool) (datum : Datum)
    → fits_schema (schemas.Array items element_id keyed) datum ≡ test_if (list_all (fits_schema items))
    (array_in (out-Datum datum))
array_fits items element_id keyed datum =
    ap (λ (s : Schema). fits_schema s datum) (sym (schemas.rolls-Array items element_id keyed))
    ∙ (fits_rolled (layers.Array items element_id keyed) datum
    ∙ by_kind
    (λ level. fits_level (layers.Array (fits_schema items) element_id keyed) level
    ≡ test_if (list_all (fits_schema items)) (array_in level))
    refl (λ x. refl) (λ x. refl) (λ x. refl) (λ x. refl) (λ x y. refl) (λ x. refl) (λ x. refl) (λ x. refl)
    (out-Datum datum))

-- a map
pub map_fits : (values : Schema) (key_id : Option ℤ) (value_id : Option ℤ) (datum : Datum)
    → fits_schema (schemas.Map values key_id value_id) datum
    ≡ test_if (list_all (λ (pair : List ℕ × Datum). fits_schema values pair.1)) (pairs_in (out-Datum datum))
map_fits values key_id value_id datum =
    ap (λ (s : Schema). fits_schema s datum) (sym (schemas.rolls-Map values key_id value_id))
    ∙ (fits_rolled (layers.Map values key_id value_id) datum
    ∙ by_kind
    (λ level. fits_level (layers.Map (fits_schema values) key_id value_id) level
    ≡ test_if (list_all (λ (pair : List ℕ × Datum). fits_schema values pair.1)) (pairs_in level))
    refl (λ x. refl) (λ x. refl) (λ x. refl) (λ x. refl) (λ x y. refl) (λ x. refl) (λ x. refl) (λ x. refl)
    (out-Datum datum))

-- the place is an int, and the value one of the branch at the place
abbrev pub is_branch_of : List Schema → ℕ × Datum → Bool
is_branch_of branches (place, inside) = nat_lt place (2 ^ 31) && fits_branch (map fits_schema branches) place inside

-- a union
pub union_fits : (branches : List Schema) (datum : Datum)
    → fits_schema (schemas.Union branches) datum ≡ test_if (is_branch_of branches) (branch_in (out-Datum datum))
union_fits branches datum =
    ap (λ (s : Schema). fits_schema s datum) (sym (schemas.rolls-Union branches))
    ∙ (fits_rolled (layers.Union branches) datum
    ∙ by_kind
    (λ level. fits_level (layers.Union (map fits_schema branches)) level
    ≡ test_if (is_branch_of branches) (branch_in level))
    refl (λ x. refl) (λ x. refl) (λ x. refl) (λ x. refl) (λ x y. refl) (λ x. refl) (λ x. refl) (λ x. refl)
    (out-Datum datum))

-- all of them
pub ruleset fitted = (
  null_fits,
  boolean_fits,
  int_fits,
  long_fits,
  float_fits,
  double_fits,
  bytes_fits,
  string_fits,
  fixed_fits,
  enum_fits,
  record_fits,
  array_fits,
  map_fits,
  union_fits,
)

-- whether a field's value fits
pub fits_field : (field : Field) (value : Datum) → field_fits field value ≡ fits_schema field.schema value
fits_field field value = ap (λ (test : Test). test value) (fold_out-Field Test Test fits_of field_test field)
