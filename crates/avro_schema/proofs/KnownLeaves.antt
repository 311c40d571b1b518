-- The kinds of schemas without a name, and without another schema in them.
use Rattle.std.proofs.Common.{◌≡◌, ℕ, suc, Bool, true, List, [], Option, Some, None, Ok, codes, refl, ap, ◌∙◌, arith}
use Rattle.json.specs.Json as json
use Rattle.serde_json.specs.Data.{string, boolean, object, Members, no_members, put}
use Rattle.schema_tree.specs.declared.schema.Schema.TheVariants as schemas
use Rattle.schema_tree.specs.declared.logical.Logical.{Logical}
use Rattle.schema_tree.specs.Logical.{Attributes, is_of_int, is_of_long, int_attributes, long_attributes}
use Rattle.schema_tree.specs.Logical.{of_int, of_long, is_utc, int_with, long_with}
use Rattle.schema_tree.specs.LogicalLaws.{int_again, long_again}
use Rattle.schema_tree.specs.declared.schema.Schema.{Schema}
use Rattle.schema_tree.specs.declared.schema.Schema.TheOpen as open_schema
use Rattle.avro_schema.specs.Defined.{Seen}
use Rattle.avro_schema.specs.Reading.{counted, schema_at}
use Rattle.avro_schema.specs.Printing.{other, number_tokens, written_of, written_field}
use Rattle.avro_schema.specs.Printable.{primitive, number_levels, spelled_of, spelled_field}
use Rattle.schema_tree.specs.Tree.{depth_of, size_of, number_of_field}
use Rattle.schema_tree.specs.Ids.{ids_of, ids_of_field}
use Rattle.schema_tree.specs.Equations.{fold_null, fold_boolean, fold_int, fold_long, fold_float, fold_double}
use Rattle.schema_tree.specs.Equations.{fold_raw, fold_str}
use Rattle.avro_schema.proofs.Known.{Known, IsKnown, known_by, leaf, word_known, typed}

-- ---- words

pub null_known : IsKnown schemas.Null
null_known =
    known_by schemas.Null (written_of open_schema.Null) (spelled_of open_schema.Null) 1 1 true
    (fold_null written_of written_field) (fold_null spelled_of spelled_field) (fold_null depth_of number_of_field) (fold_null size_of number_of_field) (fold_null ids_of ids_of_field)
    (λ right fits. word_known schemas.Null _ _ (codes "null") refl refl)

pub boolean_known : IsKnown schemas.Boolean
boolean_known =
    known_by schemas.Boolean (written_of open_schema.Boolean) (spelled_of open_schema.Boolean) 1 1 true
    (fold_boolean written_of written_field) (fold_boolean spelled_of spelled_field) (fold_boolean depth_of number_of_field) (fold_boolean size_of number_of_field) (fold_boolean ids_of ids_of_field)
    (λ right fits. word_known schemas.Boolean _ _ (codes "boolean") refl refl)

pub float_known : IsKnown schemas.Float
float_known =
    known_by schemas.Float (written_of open_schema.Float) (spelled_of open_schema.Float) 1 1 true
    (fold_float written_of written_field) (fold_float spelled_of spelled_field) (fold_float depth_of number_of_field) (fold_float size_of number_of_field) (fold_float ids_of ids_of_field)
    (λ right fits. word_known schemas.Float _ _ (codes "float") refl refl)

pub double_known : IsKnown schemas.Double
double_known =
    known_by schemas.Double (written_of open_schema.Double) (spelled_of open_schema.Double) 1 1 true
    (fold_double written_of written_field) (fold_double spelled_of spelled_field) (fold_double depth_of number_of_field) (fold_double size_of number_of_field) (fold_double ids_of ids_of_field)
    (λ right fits. word_known schemas.Double _ _ (codes "double") refl refl)

pub raw_known : IsKnown schemas.Raw
raw_known =
    known_by schemas.Raw (written_of open_schema.Raw) (spelled_of open_schema.Raw) 1 1 true
    (fold_raw written_of written_field) (fold_raw spelled_of spelled_field) (fold_raw depth_of number_of_field) (fold_raw size_of number_of_field) (fold_raw ids_of ids_of_field)
    (λ right fits. word_known schemas.Raw _ _ (codes "bytes") refl refl)

pub str_known : IsKnown schemas.Str
str_known =
    known_by schemas.Str (written_of open_schema.Str) (spelled_of open_schema.Str) 1 1 true
    (fold_str written_of written_field) (fold_str spelled_of spelled_field) (fold_str depth_of number_of_field) (fold_str size_of number_of_field) (fold_str ids_of ids_of_field)
    (λ right fits. word_known schemas.Str _ _ (codes "string") refl refl)

-- ---- ints and longs

-- whether a moment is in UTC, behind other members
abbrev utc_json : Option Bool → json.Members
utc_json None = json.no_members
utc_json (Some utc) = json.member (codes "adjust-to-utc") (json.boolean utc) json.no_members

abbrev utc_put : Option Bool → Members → Members
utc_put None found = found
utc_put (Some utc) found = put (codes "adjust-to-utc") (boolean utc) found

-- a number's object, with the attributes that say what it stands for
abbrev number_json : List ℕ → List ℕ → Option Bool → json.Json
number_json kind logical_type utc = json.object (json.member (codes "type") (json.string kind) (json.member (codes "logicalType") (json.string logical_type) (utc_json utc)))

abbrev number_members : List ℕ → List ℕ → Option Bool → Members
number_members kind logical_type utc = utc_put utc (put (codes "logicalType") (string logical_type) (put (codes "type") (string kind) no_members))

-- an object of a number is known, where it is read as the schema
number_object : (schema : Schema) (right : Bool) (kind logical_type : List ℕ) (utc : Option Bool)
    → ((room : ℕ) (seen after : Seen) → counted (suc room) 1 1 seen ≡ Ok after → schema_at (suc room) [] seen (object (number_members kind logical_type utc)) ≡ Ok (schema, after))
    → Known schema (other (number_tokens kind (Some (record { logical_type = logical_type; adjust_to_utc = utc })))) (primitive right 1) 1 1
number_object schema right kind logical_type None step =
    leaf schema _ _ (number_json kind logical_type None) (object (number_members kind logical_type None)) refl (tt, (tt, tt)) (omega arith) refl (λ schema_in seen. refl) step
number_object schema right kind logical_type (Some utc) step =
    leaf schema _ _ (number_json kind logical_type (Some utc)) (object (number_members kind logical_type (Some utc))) refl (tt, (tt, (tt, tt))) (omega arith) refl (λ schema_in seen. refl) step

-- an int of these attributes, which are read as what it stands for
int_cases : (logical : Logical) (right : Bool) (attributes : Option Attributes) → int_with attributes ≡ logical → Known (schemas.Int logical) (other (number_tokens (codes "int") attributes)) (primitive right (number_levels attributes)) 1 1
int_cases logical right None again = word_known (schemas.Int logical) _ _ (codes "int") refl (ap (λ logical. Some (schemas.Int logical)) again)
int_cases logical right (Some attributes) again = number_object (schemas.Int logical) right (codes "int") attributes.logical_type attributes.adjust_to_utc (read attributes.logical_type attributes.adjust_to_utc again)
  where
    read : (logical_type : List ℕ) (utc : Option Bool) → of_int logical_type ≡ logical → (room : ℕ) (seen after : Seen) → counted (suc room) 1 1 seen ≡ Ok after
        → schema_at (suc room) [] seen (object (number_members (codes "int") logical_type utc)) ≡ Ok (schemas.Int logical, after)
    read logical_type None again room seen after counted_is =
        typed room seen after (number_members (codes "int") logical_type None) (codes "int") counted_is refl ∙ ap (λ logical. Ok (schemas.Int logical, after)) again
    read logical_type (Some utc) again room seen after counted_is =
        typed room seen after (number_members (codes "int") logical_type (Some utc)) (codes "int") counted_is refl ∙ ap (λ logical. Ok (schemas.Int logical, after)) again

pub int_known : (logical : Logical) → IsKnown (schemas.Int logical)
int_known logical =
    known_by (schemas.Int logical) (written_of (open_schema.Int logical)) (spelled_of (open_schema.Int logical)) 1 1 true
    (fold_int written_of written_field logical) (fold_int spelled_of spelled_field logical) (fold_int depth_of number_of_field logical) (fold_int size_of number_of_field logical) (fold_int ids_of ids_of_field logical)
    (λ right fits. int_cases logical (is_of_int logical) (int_attributes logical) (int_again logical right))

-- and a long
long_cases : (logical : Logical) (right : Bool) (attributes : Option Attributes) → long_with attributes ≡ logical → Known (schemas.Long logical) (other (number_tokens (codes "long") attributes)) (primitive right (number_levels attributes)) 1 1
long_cases logical right None again = word_known (schemas.Long logical) _ _ (codes "long") refl (ap (λ logical. Some (schemas.Long logical)) again)
long_cases logical right (Some attributes) again = number_object (schemas.Long logical) right (codes "long") attributes.logical_type attributes.adjust_to_utc (read attributes.logical_type attributes.adjust_to_utc again)
  where
    read : (logical_type : List ℕ) (utc : Option Bool) → of_long logical_type (is_utc utc) ≡ logical → (room : ℕ) (seen after : Seen) → counted (suc room) 1 1 seen ≡ Ok after
        → schema_at (suc room) [] seen (object (number_members (codes "long") logical_type utc)) ≡ Ok (schemas.Long logical, after)
    read logical_type None again room seen after counted_is =
        typed room seen after (number_members (codes "long") logical_type None) (codes "long") counted_is refl ∙ ap (λ logical. Ok (schemas.Long logical, after)) again
    read logical_type (Some utc) again room seen after counted_is =
        typed room seen after (number_members (codes "long") logical_type (Some utc)) (codes "long") counted_is refl ∙ ap (λ logical. Ok (schemas.Long logical, after)) again

pub long_known : (logical : Logical) → IsKnown (schemas.Long logical)
long_known logical =
    known_by (schemas.Long logical) (written_of (open_schema.Long logical)) (spelled_of (open_schema.Long logical)) 1 1 true
    (fold_long written_of written_field logical) (fold_long spelled_of spelled_field logical) (fold_long depth_of number_of_field logical) (fold_long size_of number_of_field logical) (fold_long ids_of ids_of_field logical)
    (λ right fits. long_cases logical (is_of_long logical) (long_attributes logical) (long_again logical right))
