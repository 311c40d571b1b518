-- Which JSON value is which schema, whatever order it is read in: the forms that the standard gives to schemas.
-- Avro 1.11, "Schema Declaration", "Names"; Iceberg spec, "Appendix A: Avro" for the ids.
use Rattle.std.specs.Prelude.{◌≡◌, ◌≢◌, ℕ, ℤ, ◌≤◌, true, false, List, [], ◌∷◌, ◌++◌, Option, Some, None, Ok, codes}
use Rattle.serde_json.specs.Data.{Data, string, array, object, Items, Members}
use Rattle.serde_json.specs.Find.{get_member}
use Rattle.serde_json.specs.Read.{read}
use Rattle.std.specs.Str.{is_utf8}
use Rattle.schema_tree.specs.declared.schema.Schema.{Schema}
use Rattle.schema_tree.specs.declared.schema.Schema.TheVariants as schemas
use Rattle.schema_tree.specs.declared.schema.Field.{Field, roll-Field}
use Rattle.avro_schema.specs.Member.{text_of, values_of, text_at, list_at, fixed_size_at, id_at, is_text}
use Rattle.avro_schema.specs.Defined.{Definitions, known_as, is_taken, with_name}
use Rattle.schema_tree.specs.Names.{full_name, namespace_of}
use Rattle.schema_tree.specs.Tree.{depth, size}
use Rattle.avro_schema.specs.Reading.{primitive_of, logical_of, namespace_at, scope_of, has_field}

-- the object's type is this word
abbrev pub HasType : Members → List ℕ → Type 0
HasType members word = text_at (codes "type") members ≡ Ok word

-- the object defines this full name, which wasn't taken before; where it tells a namespace, that is a text
pub record Defines (scope : List ℕ) (names : Definitions) (members : Members) (name : List ℕ) : Type 0 where
  pub written : List ℕ
  pub named : text_at (codes "name") members ≡ Ok written
  pub namespace : namespace_at members ≢ Some None
  pub full : name ≡ full_name (scope_of scope (namespace_at members)) written
  pub free : is_taken names name ≡ false

-- the values are these texts
abbrev pub AreTexts : List Data → List (List ℕ) → Type 0
AreTexts [] [] = Unit {0}
AreTexts [] (text ∷ texts) = ⊥
AreTexts (value ∷ values) [] = ⊥
AreTexts (value ∷ values) (text ∷ texts) = (text_of value ≡ Some text) × AreTexts values texts

-- the value is no list
abbrev pub IsNoUnion : Data → Type 0
IsNoUnion value = (items : Items) → value ≢ array items

mutual
  -- in a namespace, where these names were met before, the value is the schema, and these names are met then
  pub data Means : List ℕ → Definitions → Data → Schema → Definitions → Type 0 where
    primitive_word : (scope : List ℕ) (names : Definitions) (word : List ℕ) (schema : Schema)
        → primitive_of word ≡ Some schema
        → Means scope names (string word) schema names
    name : (scope : List ℕ) (names : Definitions) (word : List ℕ) (schema : Schema)
        → primitive_of word ≡ None
        → known_as names (full_name scope word) ≡ Some (Some schema)
        → Means scope names (string word) schema names
    union : (scope : List ℕ) (names : Definitions) (items : Items) (branches : List Schema) (after : Definitions)
        → values_of items ≢ []
        → AreBranches scope names (values_of items) branches after
        → Means scope names (array items) (schemas.Union branches) after
    primitive_type : (scope : List ℕ) (names : Definitions) (members : Members) (word : List ℕ) (schema : Schema)
        → HasType members word
        → primitive_of word ≡ Some schema
        → Means scope names (object members) (logical_of word members schema) names
    record_type : (scope : List ℕ) (names : Definitions) (members : Members) (name : List ℕ) (values : List Data)
        (fields : List Field) (inside : Definitions)
        → HasType members (codes "record")
        → Defines scope names members name
        → list_at (codes "fields") members ≡ Ok values
        → AreFields (namespace_of name) (with_name names name None) [] values fields inside
        → Means scope names (object members) (schemas.Rec name fields)
        (with_name inside name (Some (schemas.Rec name fields)))
    enum_type : (scope : List ℕ) (names : Definitions) (members : Members) (name : List ℕ) (values : List Data)
        (symbols : List (List ℕ))
        → HasType members (codes "enum")
        → Defines scope names members name
        → list_at (codes "symbols") members ≡ Ok values
        → AreTexts values symbols
        → Means scope names (object members) (schemas.Enum name symbols)
        (with_name names name (Some (schemas.Enum name symbols)))
    fixed_type : (scope : List ℕ) (names : Definitions) (members : Members) (name : List ℕ) (bytes : ℕ)
        → HasType members (codes "fixed")
        → Defines scope names members name
        → fixed_size_at (codes "size") members ≡ Ok bytes
        → Means scope names (object members) (schemas.Fixed name bytes)
        (with_name names name (Some (schemas.Fixed name bytes)))
    array_type : (scope : List ℕ) (names : Definitions) (members : Members) (id : Option ℤ) (value : Data)
        (items : Schema) (after : Definitions)
        → HasType members (codes "array")
        → id_at (codes "element-id") members ≡ Ok id
        → get_member (codes "items") members ≡ Some value
        → Means scope names value items after
        → Means scope names (object members)
        (schemas.Array items id (is_text (get_member (codes "logicalType") members) (codes "map"))) after
    map_type : (scope : List ℕ) (names : Definitions) (members : Members) (key_id value_id : Option ℤ) (value : Data)
        (values : Schema) (after : Definitions)
        → HasType members (codes "map")
        → id_at (codes "key-id") members ≡ Ok key_id
        → id_at (codes "value-id") members ≡ Ok value_id
        → get_member (codes "values") members ≡ Some value
        → Means scope names value values after
        → Means scope names (object members) (schemas.Map values key_id value_id) after

  -- the values are the branches of a union, none of them a union; each is met where those before it were
  pub data AreBranches : List ℕ → Definitions → List Data → List Schema → Definitions → Type 0 where
    no_branch : (scope : List ℕ) (names : Definitions) → AreBranches scope names [] [] names
    branch : (scope : List ℕ) (names : Definitions) (value : Data) (values : List Data) (schema : Schema)
        (branches : List Schema) (between after : Definitions)
        → IsNoUnion value
        → Means scope names value schema between
        → AreBranches scope between values branches after
        → AreBranches scope names (value ∷ values) (schema ∷ branches) after

  -- the values are fields after others, no two of one name; each is met where those before it were
  pub data AreFields : List ℕ → Definitions → List Field → List Data → List Field → Definitions → Type 0 where
    no_field : (scope : List ℕ) (names : Definitions) (before : List Field)
        → AreFields scope names before [] before names
    field : (scope : List ℕ) (names : Definitions) (before : List Field) (members : Members) (values : List Data)
        (id : Option ℤ) (name : List ℕ) (value : Data) (schema : Schema) (fields : List Field)
        (between after : Definitions)
        → id_at (codes "field-id") members ≡ Ok id
        → text_at (codes "name") members ≡ Ok name
        → has_field before name ≡ false
        → get_member (codes "type") members ≡ Some value
        → Means scope names value schema between
        → AreFields scope between (before ++ roll-Field (record { name = name; id = id; schema = schema }) ∷ [])
        values fields after
        → AreFields scope names before (object members ∷ values) fields after

-- the value is the schema, which is neither deeper nor larger than is read
pub record IsSchema (value : Data) (schema : Schema) : Type 0 where
  pub names : Definitions
  pub means : Means [] [] value schema names
  pub depth : depth schema ≤ 64
  pub size : size schema ≤ 65536

-- the text is a JSON text, and its value is the schema
pub record IsSchemaText (text : List ℕ) (schema : Schema) : Type 0 where
  pub value : Data
  pub utf8 : is_utf8 text ≡ true
  pub json : read text ≡ Some value
  pub is_schema : IsSchema value schema
