-- The one text of a schema that is written: its JSON tokens, without spaces. docs/FORMATS.md, "Avro schemas".
use Rattle.std.specs.Prelude.{ℕ, ℤ, Bool, true, false, List, [], ◌∷◌, ◌++◌, Option, Some, None, codes}
use Rattle.std.specs.List.{flat_map}
use Rattle.std.specs.Fmt.{decimal, signed_decimal}
use Rattle.json.specs.Token.{Token, begin_object, end_object, begin_array, end_array, key, string, number, boolean}
use Rattle.json.specs.Token.{null}
use Rattle.json.specs.Print.{print}
use Rattle.schema_tree.specs.declared.schema.Schema.{Schema}
use Rattle.schema_tree.specs.declared.schema.Schema.TheOpen.{Schema-F, Field-F, Null, Boolean, Int, Long, Float}
use Rattle.schema_tree.specs.declared.schema.Schema.TheOpen.{Double, Raw, Str, Fixed, Enum, Rec, Array, Map, Union}
use Rattle.schema_tree.specs.declared.schema.Schema.TheFolds.{fold-Schema}
use Rattle.schema_tree.specs.declared.logical.Logical.{Logical}
use Rattle.schema_tree.specs.Logical.{Attributes, int_attributes, long_attributes}

-- a schema as it is written, and whether it is the null type, or a union that begins with it
pub record Written : Type 0 where
  pub tokens : List Token
  pub is_null : Bool
  pub begins_with_null : Bool

-- a schema of another kind
abbrev pub other : List Token → Written
other tokens = record { tokens = tokens; is_null = false; begins_with_null = false }

-- ---- members of objects

-- a member that is a text
abbrev pub text_member : List ℕ → List ℕ → List Token
text_member name text = key name ∷ string text ∷ []

-- a member that is a boolean
abbrev pub flag_member : List ℕ → Bool → List Token
flag_member name flag = key name ∷ boolean flag ∷ []

-- an id, which is left out with its member if there is none
abbrev pub id_member : List ℕ → Option ℤ → List Token
id_member name None = []
id_member name (Some id) = key name ∷ number (signed_decimal id) ∷ []

-- an object of these members
abbrev pub object_of : List Token → List Token
object_of members = begin_object ∷ (members ++ end_object ∷ [])

-- a list of these items
abbrev pub list_of : List Token → List Token
list_of items = begin_array ∷ (items ++ end_array ∷ [])

-- a list of texts
abbrev pub texts_of : List (List ℕ) → List Token
texts_of texts = list_of (flat_map (λ text. string text ∷ []) texts)

-- a type that is a word alone
abbrev pub word : List ℕ → List Token
word name = string name ∷ []

-- ---- schemas

-- a type that stands for something
abbrev pub logical_type : List ℕ → List ℕ → List Token
logical_type name logical = text_member (codes "type") name ++ text_member (codes "logicalType") logical

-- whether a moment is in UTC, which may be left out
abbrev pub utc_member : Option Bool → List Token
utc_member None = []
utc_member (Some utc) = flag_member (codes "adjust-to-utc") utc

-- a number: a word alone, or an object with the attributes that say what it stands for
abbrev pub number_tokens : List ℕ → Option Attributes → List Token
number_tokens name None = word name
number_tokens name (Some attributes) =
    object_of (logical_type name attributes.logical_type ++ utc_member attributes.adjust_to_utc)

-- an int
abbrev pub int_tokens : Logical → List Token
int_tokens logical = number_tokens (codes "int") (int_attributes logical)

-- a long
abbrev pub long_tokens : Logical → List Token
long_tokens logical = number_tokens (codes "long") (long_attributes logical)

-- the mark of an array that stands for a map
abbrev pub keyed_member : Bool → List Token
keyed_member false = []
keyed_member true = text_member (codes "logicalType") (codes "map")

-- the default value of a field that may be null first
abbrev pub default_member : Bool → List Token
default_member false = []
default_member true = key (codes "default") ∷ null ∷ []

-- the first branch is the null type
abbrev pub null_is_first : List Written → Bool
null_is_first [] = false
null_is_first (branch ∷ branches) = branch.is_null

-- the tokens of schemas, in order
abbrev pub all_tokens : List Written → List Token
all_tokens parts = flat_map (λ part. part.tokens) parts

-- a schema, by those in it
abbrev pub written_of : Schema-F Written Written → Written
written_of Null = record { tokens = word (codes "null"); is_null = true; begins_with_null = false }
written_of Boolean = other (word (codes "boolean"))
written_of (Int logical) = other (int_tokens logical)
written_of (Long logical) = other (long_tokens logical)
written_of Float = other (word (codes "float"))
written_of Double = other (word (codes "double"))
written_of Raw = other (word (codes "bytes"))
written_of Str = other (word (codes "string"))
written_of (Fixed name size) =
    other (object_of (text_member (codes "type") (codes "fixed") ++
    (text_member (codes "name") name ++ (key (codes "size") ∷ number (decimal size) ∷ []))))
written_of (Enum name symbols) =
    other (object_of (text_member (codes "type") (codes "enum") ++
    (text_member (codes "name") name ++ (key (codes "symbols") ∷ texts_of symbols))))
written_of (Rec name fields) =
    other (object_of (text_member (codes "type") (codes "record") ++
    (text_member (codes "name") name ++ (key (codes "fields") ∷ list_of (all_tokens fields)))))
written_of (Array items element_id keyed) =
    other (object_of (text_member (codes "type") (codes "array") ++
    (keyed_member keyed ++ (key (codes "items") ∷ (items.tokens ++ id_member (codes "element-id") element_id)))))
written_of (Map values key_id value_id) =
    other (object_of (text_member (codes "type") (codes "map") ++
    (key (codes "values") ∷
    (values.tokens ++ (id_member (codes "key-id") key_id ++ id_member (codes "value-id") value_id)))))
written_of (Union branches) =
    record { tokens = list_of (all_tokens branches); is_null = false; begins_with_null = null_is_first branches }

-- a field
abbrev pub written_field : Field-F Written Written → Written
written_field field =
    other (object_of (text_member (codes "name") field.name ++
    (key (codes "type") ∷
    (field.schema.tokens ++
    (default_member field.schema.begins_with_null ++ id_member (codes "field-id") field.id)))))

-- a schema as it is written
abbrev pub written : Schema → Written
written = fold-Schema Written Written written_of written_field

-- its text
unfoldable pub schema_text : Schema → List ℕ
schema_text schema = print (written schema).tokens
