-- The schemas whose text is read as the schema again: a text can spell them, with plain names, each defined once.
use Rattle.std.specs.Prelude.{◌≡◌, ℕ, suc, ◌≤◌, ◌==◌, ◌&&◌, ◌||◌, Bool, true, false, not, List, [], ◌∷◌, nat_le}
use Rattle.std.specs.Prelude.{Option, Some, None}
use Rattle.std.specs.List.{list_all, list_any, flat_map}
use Rattle.std.specs.Str.{bytes_eq}
use Rattle.schema_tree.specs.declared.schema.Schema.{Schema}
use Rattle.schema_tree.specs.declared.schema.Schema.TheOpen.{Schema-F, Field-F, Null, Boolean, Int, Long, Float}
use Rattle.schema_tree.specs.declared.schema.Schema.TheOpen.{Double, Raw, Str, Fixed, Enum, Rec, Array, Map, Union}
use Rattle.schema_tree.specs.declared.schema.Schema.TheFolds.{fold-Schema}
use Rattle.schema_tree.specs.declared.logical.Logical.{Logical}
use Rattle.schema_tree.specs.Logical.{Attributes, is_of_int, is_of_long, int_attributes, long_attributes}
use Rattle.schema_tree.specs.Tree.{depth, size, largest}

-- ---- names. Avro 1.11, "Names"

-- a letter of ASCII, or an underscore
abbrev pub begins_name : ℕ → Bool
begins_name byte = (nat_le 65 byte && nat_le byte 90) || (nat_le 97 byte && nat_le byte 122) || (byte == 95)

-- one of these, or a digit
abbrev pub goes_on_name : ℕ → Bool
goes_on_name byte = begins_name byte || (nat_le 48 byte && nat_le byte 57)

-- a name as the standard has them, without a dot
abbrev pub is_avro_name : List ℕ → Bool
is_avro_name [] = false
is_avro_name (byte ∷ rest) = begins_name byte && list_all goes_on_name rest

-- no name is a duplicate
abbrev pub are_distinct : List (List ℕ) → Bool
are_distinct [] = true
are_distinct (name ∷ names) = not (list_any (bytes_eq name) names) && are_distinct names

-- ---- what can be spelled

-- what is known of a schema: whether a text can spell it and all in it, whether it is a union,
-- how deep its text nests, and the names that it defines
pub record Spelled : Type 0 where
  pub right : Bool
  pub is_union : Bool
  pub levels : ℕ
  pub names : List (List ℕ)

-- a field's name, and what is known of its schema
pub record SpelledField : Type 0 where
  pub name : List ℕ
  pub schema : Spelled

-- an int, a long or another type without one in it, of which this is right
abbrev pub primitive : Bool → ℕ → Spelled
primitive right levels = record { right = right; is_union = false; levels = levels; names = [] }

-- how deep the text of a number nests: a word doesn't, and an object does once
abbrev pub number_levels : Option Attributes → ℕ
number_levels None = 0
number_levels (Some attributes) = 1

-- an int, and a long, of what it may stand for
abbrev pub int_spelled : Logical → Spelled
int_spelled logical = primitive (is_of_int logical) (number_levels (int_attributes logical))

abbrev pub long_spelled : Logical → Spelled
long_spelled logical = primitive (is_of_long logical) (number_levels (long_attributes logical))

-- there is one at least
abbrev pub is_some_list : {A : Type 0} → List A → Bool
is_some_list [] = false
is_some_list (x ∷ xs) = true

-- the levels of a list of schemas
abbrev pub levels_of : List Spelled → ℕ
levels_of parts = largest (levels parts)
  where
    levels : List Spelled → List ℕ
    levels [] = []
    levels (part ∷ parts) = part.levels ∷ levels parts

-- the schemas of fields
abbrev pub schemas_of : List SpelledField → List Spelled
schemas_of [] = []
schemas_of (field ∷ fields) = field.schema ∷ schemas_of fields

abbrev pub field_names : List SpelledField → List (List ℕ)
field_names [] = []
field_names (field ∷ fields) = field.name ∷ field_names fields

-- the levels of a list of fields, each of which is an object
abbrev pub field_levels : List SpelledField → ℕ
field_levels [] = 0
field_levels (field ∷ fields) = suc (levels_of (schemas_of (field ∷ fields)))

-- what is known of a schema, by what is known of those in it
abbrev pub spelled_of : Schema-F Spelled SpelledField → Spelled
spelled_of Null = primitive true 0
spelled_of Boolean = primitive true 0
spelled_of (Int logical) = int_spelled logical
spelled_of (Long logical) = long_spelled logical
spelled_of Float = primitive true 0
spelled_of Double = primitive true 0
spelled_of Raw = primitive true 0
spelled_of Str = primitive true 0
spelled_of (Fixed name size) =
    record { right = is_avro_name name && nat_le size 1048576; is_union = false; levels = 1; names = name ∷ [] }
spelled_of (Enum name symbols) =
    record {
      right = is_avro_name name && list_all is_avro_name symbols;
      is_union = false;
      levels = 2;
      names = name ∷ [];
    }
spelled_of (Rec name fields) = record {
  right = is_avro_name name && list_all is_avro_name (field_names fields) && are_distinct (field_names fields) &&
      list_all (λ (part : Spelled). part.right) (schemas_of fields);
  is_union = false;
  levels = suc (suc (field_levels fields));
  names = name ∷ flat_map (λ (part : Spelled). part.names) (schemas_of fields);
}
spelled_of (Array items element_id keyed) =
    record { right = items.right; is_union = false; levels = suc items.levels; names = items.names }
spelled_of (Map values key_id value_id) =
    record { right = values.right; is_union = false; levels = suc values.levels; names = values.names }
spelled_of (Union branches) = record {
  right = is_some_list branches && list_all (λ (branch : Spelled). branch.right && not branch.is_union) branches;
  is_union = true;
  levels = suc (levels_of branches);
  names = flat_map (λ (branch : Spelled). branch.names) branches;
}

abbrev pub spelled_field : Field-F Spelled SpelledField → SpelledField
spelled_field field = record { name = field.name; schema = field.schema }

-- what is known of a schema
abbrev pub spelled : Schema → Spelled
spelled = fold-Schema Spelled SpelledField spelled_of spelled_field

-- the schema's text is read as it: a text can spell it, its names are defined once,
-- and neither it nor its text is deeper or larger than is read
pub record IsPrintable (schema : Schema) : Type 0 where
  pub right : (spelled schema).right ≡ true
  pub once : are_distinct (spelled schema).names ≡ true
  pub levels : (spelled schema).levels ≤ 127
  pub depth : depth schema ≤ 64
  pub size : size schema ≤ 65536
