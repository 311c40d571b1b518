-- What a value's bytes are, for each kind of schema.
use Rattle.std.proofs.Common.{◌≡◌, ℕ, ℤ, pos, Bool, List, [], ◌∷◌, ◌++◌, map, Option, refl, sym, ap, ◌∙◌}
use Rattle.avro_wire.specs.Writing.{number_text, bytes_text, list_text}
use Rattle.schema_tree.specs.declared.logical.Logical.{Logical}
use Rattle.schema_tree.specs.declared.schema.Schema.{Schema, roll-Schema}
use Rattle.schema_tree.specs.declared.schema.Field.{Field}
use Rattle.schema_tree.specs.declared.schema.Schema.TheOpen as layers
use Rattle.schema_tree.specs.declared.schema.Schema.TheOpen.{Schema-F}
use Rattle.schema_tree.specs.declared.schema.Schema.TheVariants as schemas
use Rattle.schema_tree.specs.declared.schema.Schema.TheFolds.{fold-roll-Schema, map-Schema}
use Rattle.datum_tree.specs.declared.datum.Datum.{Datum, out-Datum}
use Rattle.datum_tree.specs.Spelling.{flag_byte}
use Rattle.datum_writing.specs.Canonical.{Encoder, each_text, pair_text, branch_text, level_text, text_of, field_text}
use Rattle.datum_writing.specs.Canonical.{canonical}
use Rattle.datum_writing.specs.Canonical.{field_canonical}
use Rattle.datum_tree.specs.Kinds.{flag_in, number_in, raw_in, text_in, fields_in, array_in, pairs_in, branch_in}
use Rattle.datum_tree.specs.Kinds.{text_if}
use Rattle.datum_tree.specs.KindLaws.{by_kind}

-- the bytes under a schema that is made of a layer
rolled : (layer : Schema-F Schema Field) (datum : Datum) → canonical (roll-Schema layer) datum ≡ level_text (map-Schema Schema Field Encoder Encoder canonical field_canonical layer) (out-Datum datum)
rolled layer datum = ap (λ (f : Encoder). f datum) (fold-roll-Schema Encoder Encoder text_of field_text layer)

-- the null
pub null_written : (datum : Datum) → canonical schemas.Null datum ≡ []
null_written datum = ap (λ (s : Schema). canonical s datum) (sym (schemas.rolls-Null)) ∙ (rolled layers.Null datum ∙ by_kind (λ level. level_text layers.Null level ≡ []) refl (λ x. refl) (λ x. refl) (λ x. refl) (λ x. refl) (λ x y. refl) (λ x. refl) (λ x. refl) (λ x. refl) (out-Datum datum))

-- a truth value
pub boolean_written : (datum : Datum) → canonical schemas.Boolean datum ≡ text_if (λ flag. flag_byte flag ∷ []) (flag_in (out-Datum datum))
boolean_written datum =
    ap (λ (s : Schema). canonical s datum) (sym (schemas.rolls-Boolean))
    ∙ (rolled layers.Boolean datum ∙ by_kind (λ level. level_text layers.Boolean level ≡ text_if (λ flag. flag_byte flag ∷ []) (flag_in level)) refl (λ x. refl) (λ x. refl) (λ x. refl) (λ x. refl) (λ x y. refl) (λ x. refl) (λ x. refl) (λ x. refl) (out-Datum datum))

-- an int
pub int_written : (logical : Logical) (datum : Datum) → canonical (schemas.Int logical) datum ≡ text_if number_text (number_in (out-Datum datum))
int_written logical datum =
    ap (λ (s : Schema). canonical s datum) (sym (schemas.rolls-Int logical))
    ∙ (rolled (layers.Int logical) datum ∙ by_kind (λ level. level_text (layers.Int logical) level ≡ text_if number_text (number_in level)) refl (λ x. refl) (λ x. refl) (λ x. refl) (λ x. refl) (λ x y. refl) (λ x. refl) (λ x. refl) (λ x. refl) (out-Datum datum))

-- a long
pub long_written : (logical : Logical) (datum : Datum) → canonical (schemas.Long logical) datum ≡ text_if number_text (number_in (out-Datum datum))
long_written logical datum =
    ap (λ (s : Schema). canonical s datum) (sym (schemas.rolls-Long logical))
    ∙ (rolled (layers.Long logical) datum ∙ by_kind (λ level. level_text (layers.Long logical) level ≡ text_if number_text (number_in level)) refl (λ x. refl) (λ x. refl) (λ x. refl) (λ x. refl) (λ x y. refl) (λ x. refl) (λ x. refl) (λ x. refl) (out-Datum datum))

-- a float
pub float_written : (datum : Datum) → canonical schemas.Float datum ≡ text_if (λ bytes. bytes) (raw_in (out-Datum datum))
float_written datum =
    ap (λ (s : Schema). canonical s datum) (sym (schemas.rolls-Float))
    ∙ (rolled layers.Float datum ∙ by_kind (λ level. level_text layers.Float level ≡ text_if (λ bytes. bytes) (raw_in level)) refl (λ x. refl) (λ x. refl) (λ x. refl) (λ x. refl) (λ x y. refl) (λ x. refl) (λ x. refl) (λ x. refl) (out-Datum datum))

-- a double
pub double_written : (datum : Datum) → canonical schemas.Double datum ≡ text_if (λ bytes. bytes) (raw_in (out-Datum datum))
double_written datum =
    ap (λ (s : Schema). canonical s datum) (sym (schemas.rolls-Double))
    ∙ (rolled layers.Double datum ∙ by_kind (λ level. level_text layers.Double level ≡ text_if (λ bytes. bytes) (raw_in level)) refl (λ x. refl) (λ x. refl) (λ x. refl) (λ x. refl) (λ x y. refl) (λ x. refl) (λ x. refl) (λ x. refl) (out-Datum datum))

-- bytes
pub bytes_written : (datum : Datum) → canonical schemas.Raw datum ≡ text_if bytes_text (raw_in (out-Datum datum))
bytes_written datum =
    ap (λ (s : Schema). canonical s datum) (sym (schemas.rolls-Raw))
    ∙ (rolled layers.Raw datum ∙ by_kind (λ level. level_text layers.Raw level ≡ text_if bytes_text (raw_in level)) refl (λ x. refl) (λ x. refl) (λ x. refl) (λ x. refl) (λ x y. refl) (λ x. refl) (λ x. refl) (λ x. refl) (out-Datum datum))

-- a string
pub string_written : (datum : Datum) → canonical schemas.Str datum ≡ text_if bytes_text (text_in (out-Datum datum))
string_written datum =
    ap (λ (s : Schema). canonical s datum) (sym (schemas.rolls-Str))
    ∙ (rolled layers.Str datum ∙ by_kind (λ level. level_text layers.Str level ≡ text_if bytes_text (text_in level)) refl (λ x. refl) (λ x. refl) (λ x. refl) (λ x. refl) (λ x y. refl) (λ x. refl) (λ x. refl) (λ x. refl) (out-Datum datum))

-- a fixed
pub fixed_written : (name : List ℕ) (size : ℕ) (datum : Datum) → canonical (schemas.Fixed name size) datum ≡ text_if (λ bytes. bytes) (raw_in (out-Datum datum))
fixed_written name size datum =
    ap (λ (s : Schema). canonical s datum) (sym (schemas.rolls-Fixed name size))
    ∙ (rolled (layers.Fixed name size) datum ∙ by_kind (λ level. level_text (layers.Fixed name size) level ≡ text_if (λ bytes. bytes) (raw_in level)) refl (λ x. refl) (λ x. refl) (λ x. refl) (λ x. refl) (λ x y. refl) (λ x. refl) (λ x. refl) (λ x. refl) (out-Datum datum))

-- an enum
pub enum_written : (name : List ℕ) (symbols : List (List ℕ)) (datum : Datum) → canonical (schemas.Enum name symbols) datum ≡ text_if number_text (number_in (out-Datum datum))
enum_written name symbols datum =
    ap (λ (s : Schema). canonical s datum) (sym (schemas.rolls-Enum name symbols))
    ∙ (rolled (layers.Enum name symbols) datum ∙ by_kind (λ level. level_text (layers.Enum name symbols) level ≡ text_if number_text (number_in level)) refl (λ x. refl) (λ x. refl) (λ x. refl) (λ x. refl) (λ x y. refl) (λ x. refl) (λ x. refl) (λ x. refl) (out-Datum datum))

-- a record
pub record_written : (name : List ℕ) (fields : List Field) (datum : Datum) → canonical (schemas.Rec name fields) datum ≡ text_if (each_text (map field_canonical fields)) (fields_in (out-Datum datum))
record_written name fields datum =
    ap (λ (s : Schema). canonical s datum) (sym (schemas.rolls-Rec name fields))
    ∙ (rolled (layers.Rec name fields) datum ∙ by_kind (λ level. level_text (layers.Rec name (map field_canonical fields)) level ≡ text_if
    (each_text (map field_canonical fields)) (fields_in level)) refl (λ x. refl) (λ x. refl) (λ x. refl) (λ x. refl) (λ x y. refl) (λ x. refl)
    (λ x. refl) (λ x. refl) (out-Datum datum))

-- an array
pub array_written : (items : Schema) (element_id : Option ℤ) (keyed : Bool) (datum : Datum) → canonical (schemas.Array items element_id keyed) datum ≡ text_if (list_text (canonical items)) (array_in (out-Datum datum))
array_written items element_id keyed datum =
    ap (λ (s : Schema). canonical s datum) (sym (schemas.rolls-Array items element_id keyed))
    ∙ (rolled (layers.Array items element_id keyed) datum ∙ by_kind (λ level. level_text (layers.Array (canonical items) element_id keyed) level
    ≡ text_if (list_text (canonical items)) (array_in level)) refl (λ x. refl) (λ x. refl) (λ x. refl) (λ x. refl) (λ x y. refl) (λ x. refl)
    (λ x. refl) (λ x. refl) (out-Datum datum))

-- a map
pub map_written : (values : Schema) (key_id : Option ℤ) (value_id : Option ℤ) (datum : Datum) → canonical (schemas.Map values key_id value_id) datum ≡ text_if (list_text (pair_text (canonical values))) (pairs_in (out-Datum datum))
map_written values key_id value_id datum =
    ap (λ (s : Schema). canonical s datum) (sym (schemas.rolls-Map values key_id value_id))
    ∙ (rolled (layers.Map values key_id value_id) datum ∙ by_kind (λ level. level_text (layers.Map (canonical values) key_id value_id) level
    ≡ text_if (list_text (pair_text (canonical values))) (pairs_in level)) refl (λ x. refl) (λ x. refl) (λ x. refl) (λ x. refl) (λ x y. refl)
    (λ x. refl) (λ x. refl) (λ x. refl) (out-Datum datum))

-- a union
pub union_written : (branches : List Schema) (datum : Datum) → canonical (schemas.Union branches) datum ≡ text_if (λ branch. number_text (pos branch.0) ++ branch_text (map canonical branches) branch.0 branch.1) (branch_in (out-Datum datum))
union_written branches datum =
    ap (λ (s : Schema). canonical s datum) (sym (schemas.rolls-Union branches))
    ∙ (rolled (layers.Union branches) datum ∙ by_kind (λ level. level_text (layers.Union (map canonical branches)) level ≡ text_if
    (λ branch. number_text (pos branch.0) ++ branch_text (map canonical branches) branch.0 branch.1) (branch_in level)) refl (λ x. refl)
    (λ x. refl) (λ x. refl) (λ x. refl) (λ x y. refl) (λ x. refl) (λ x. refl) (λ x. refl) (out-Datum datum))

-- all of them
pub ruleset written = (null_written, boolean_written, int_written, long_written, float_written, double_written, bytes_written, string_written, fixed_written, enum_written, record_written, array_written, map_written, union_written)
