-- Which schema a JSON value is, or the first place from the top that is none.
-- Avro 1.11, "Schema Declaration", "Names"; Iceberg spec, "Appendix A: Avro" for the ids.
use Rattle.std.specs.Prelude.{ℕ, zero, suc, ◌+◌, Bool, ◌||◌, List, [], ◌∷◌, ◌++◌, Option, Some, None}
use Rattle.std.specs.Prelude.{Result, Ok, Err, nat_lt, codes, if◌then◌else◌, option_and_then}
use Rattle.std.specs.Fmt.{decimal}
use Rattle.std.specs.List.{list_any}
use Rattle.std.specs.Str.{bytes_eq}
use Rattle.words.specs.Reading.{◌>>=◌, map_value}
use Rattle.serde_json.specs.Data.{Data, null, boolean, number, string, array, object, Members}
use Rattle.serde_json.specs.Find.{get_member}
use Rattle.json_members.specs.Parsing.{value_of}
use Rattle.schema_tree.specs.declared.schema.Schema.{Schema}
use Rattle.schema_tree.specs.declared.schema.Schema.TheVariants as schemas
use Rattle.schema_tree.specs.declared.schema.Field.{Field, out-Field, roll-Field}
use Rattle.schema_tree.specs.declared.logical.Logical.{Logical}
use Rattle.schema_tree.specs.declared.logical.Logical.TheVariants.{Plain}
use Rattle.schema_tree.specs.Logical.{of_int, of_long}
use Rattle.avro_schema.specs.declared.refusal.SchemaRefusal.{SchemaRefusal}
use Rattle.avro_schema.specs.declared.refusal.SchemaRefusal.TheVariants.{NotJson, Form, Unknown, Nesting}
use Rattle.avro_schema.specs.Refusal.{under}
use Rattle.schema_tree.specs.Tree.{depth, size}
use Rattle.avro_schema.specs.Member.{text_of, values_of, or_form, needed, text_at, list_at, fixed_size_at, id_at}
use Rattle.avro_schema.specs.Member.{is_text, is_true}
use Rattle.avro_schema.specs.Defined.{Seen, known_as, is_taken, begun, defined, nothing_seen}
use Rattle.schema_tree.specs.Names.{full_name, namespace_of}

-- ---- primitive types

-- the type that the word names
abbrev pub primitive_of : List ℕ → Option Schema
primitive_of word =
    if bytes_eq word (codes "null") then Some schemas.Null
    else (if bytes_eq word (codes "boolean") then Some schemas.Boolean
    else (if bytes_eq word (codes "int") then Some (schemas.Int Plain)
    else (if bytes_eq word (codes "long") then Some (schemas.Long Plain)
    else (if bytes_eq word (codes "float") then Some schemas.Float
    else (if bytes_eq word (codes "double") then Some schemas.Double
    else (if bytes_eq word (codes "bytes") then Some schemas.Raw
    else (if bytes_eq word (codes "string") then Some schemas.Str
    else None)))))))

-- what a number stands for, by its logical type; it is a number alone where there is none
abbrev pub stands_for : (List ℕ → Logical) → Option (List ℕ) → Logical
stands_for meaning None = Plain
stands_for meaning (Some logical_type) = meaning logical_type

-- the logical type of an object, where it is a text
abbrev pub logical_type_of : Members → Option (List ℕ)
logical_type_of members = option_and_then text_of (get_member (codes "logicalType") members)

-- what an int stands for
abbrev pub logical_int : Members → Logical
logical_int members = stands_for of_int (logical_type_of members)

-- what a long stands for
abbrev pub logical_long : Members → Logical
logical_long members =
    stands_for (λ logical_type. of_long logical_type (is_true (get_member (codes "adjust-to-utc") members)))
    (logical_type_of members)

-- the type that the word names, with what the other members say of it
abbrev pub logical_of : List ℕ → Members → Schema → Schema
logical_of word members schema =
    if bytes_eq word (codes "int") then schemas.Int (logical_int members)
    else (if bytes_eq word (codes "long") then schemas.Long (logical_long members)
    else schema)

-- ---- how much may stand in a schema

-- a schema stands here that is so deep, and counts so many, where so many levels may stand from it down
abbrev pub counted : ℕ → ℕ → ℕ → Seen → Result Seen SchemaRefusal
counted room levels many seen =
    if nat_lt room levels || nat_lt 65536 (seen.count + many) then Err Nesting
    else Ok (record { names = seen.names; count = seen.count + many })

-- ---- the parts of a schema, over the reader of the schemas in it

-- from a namespace and what was met, the schema that a value is, and what was met then
abbrev pub Reader : Type 0
Reader = List ℕ → Seen → Data → Result (Schema × Seen) SchemaRefusal

-- a name that was defined; its schema is in its place
abbrev pub use_of : ℕ → List ℕ → Seen → Option (Option Schema) → Result (Schema × Seen) SchemaRefusal
use_of room name seen None = Err (Unknown name)
use_of room name seen (Some None) = Err (Unknown name)
use_of room name seen (Some (Some schema)) =
    map_value (λ after. (schema, after)) (counted room (depth schema) (size schema) seen)

-- a word alone: a primitive type, or a name
abbrev pub word_at : ℕ → List ℕ → Seen → List ℕ → Option Schema → Result (Schema × Seen) SchemaRefusal
word_at room scope seen word (Some primitive) = map_value (λ after. (primitive, after)) (counted room 1 1 seen)
word_at room scope seen word None = use_of room word seen (known_as seen.names (full_name scope word))

-- the namespace that a definition names, or the one that it is in
abbrev pub scope_of : List ℕ → Option (Option (List ℕ)) → List ℕ
scope_of scope None = scope
scope_of scope (Some None) = scope
scope_of scope (Some (Some namespace)) = namespace

-- the member, seen as a text
abbrev pub namespace_at : Members → Option (Option (List ℕ))
namespace_at members = as_text (get_member (codes "namespace") members)
  where
    as_text : Option Data → Option (Option (List ℕ))
    as_text None = None
    as_text (Some value) = Some (text_of value)

-- a name that isn't taken yet, and a namespace that is a text where it is there
abbrev pub checked_name : Seen → List ℕ → Option (Option (List ℕ)) → Result (List ℕ) SchemaRefusal
checked_name seen name namespace =
    if is_taken seen.names name then Err (Form (codes "name")) else text_or_none namespace name
  where
    text_or_none : Option (Option (List ℕ)) → List ℕ → Result (List ℕ) SchemaRefusal
    text_or_none None name = Ok name
    text_or_none (Some None) name = Err (Form (codes "namespace"))
    text_or_none (Some (Some namespace)) name = Ok name

-- the full name of a definition
abbrev pub name_at : List ℕ → Seen → Members → Result (List ℕ) SchemaRefusal
name_at scope seen members =
    text_at (codes "name") members >>= λ name.
    checked_name seen (full_name (scope_of scope (namespace_at members)) name) (namespace_at members)

-- some field has the name
abbrev pub has_field : List Field → List ℕ → Bool
has_field fields name = list_any (λ (field : Field). bytes_eq (out-Field field).name name) fields

-- a name that no field before has
abbrev pub new_field_name : List Field → List ℕ → Result (List ℕ) SchemaRefusal
new_field_name before name = if has_field before name then Err (Form (codes "name")) else Ok name

-- a field after others
abbrev pub field_at : (Seen → Data → Result (Schema × Seen) SchemaRefusal) → List Field → Seen → Data
    → Result (Field × Seen) SchemaRefusal
field_at schema_in before seen null = Err (Form [])
field_at schema_in before seen (boolean flag) = Err (Form [])
field_at schema_in before seen (number num) = Err (Form [])
field_at schema_in before seen (string text) = Err (Form [])
field_at schema_in before seen (array items) = Err (Form [])
field_at schema_in before seen (object members) = do
  id ← id_at (codes "field-id") members
  text ← text_at (codes "name") members
  name ← new_field_name before text
  value ← needed (codes "type") members
  schema ← under (codes "type") (schema_in seen value)
  Ok (roll-Field (record { name = name; id = id; schema = schema.0 }), schema.1)

-- a schema that is no union
abbrev pub branch_at : (Seen → Data → Result (Schema × Seen) SchemaRefusal) → Seen → Data
    → Result (Schema × Seen) SchemaRefusal
branch_at schema_in seen (array items) = Err (Form [])
branch_at schema_in seen null = schema_in seen null
branch_at schema_in seen (boolean flag) = schema_in seen (boolean flag)
branch_at schema_in seen (number num) = schema_in seen (number num)
branch_at schema_in seen (string text) = schema_in seen (string text)
branch_at schema_in seen (object members) = schema_in seen (object members)

-- fields after others; the place of the first one in the list, from 1
unfoldable pub fields_at : (Seen → Data → Result (Schema × Seen) SchemaRefusal) → ℕ → List Field → Seen → List Data
    → Result (List Field × Seen) SchemaRefusal
fields_at schema_in place before seen [] = Ok (before, seen)
fields_at schema_in place before seen (value ∷ values) =
    under (decimal place) (field_at schema_in before seen value) >>= λ field.
    fields_at schema_in (place + 1) (before ++ field.0 ∷ []) field.1 values

-- the texts of a list, after others; the place of the first one in the list, from 1
unfoldable pub texts_at : ℕ → List (List ℕ) → List Data → Result (List (List ℕ)) SchemaRefusal
texts_at place before [] = Ok before
texts_at place before (value ∷ values) =
    or_form (decimal place) (text_of value) >>= λ text. texts_at (place + 1) (before ++ text ∷ []) values

-- the branches of a union, after others; none of them is a union
unfoldable pub branches_at : (Seen → Data → Result (Schema × Seen) SchemaRefusal) → ℕ → List Schema → Seen → List Data
    → Result (List Schema × Seen) SchemaRefusal
branches_at schema_in place before seen [] = Ok (before, seen)
branches_at schema_in place before seen (value ∷ values) =
    under (decimal place) (branch_at schema_in seen value) >>= λ branch.
    branches_at schema_in (place + 1) (before ++ branch.0 ∷ []) branch.1 values

-- ---- the kinds of schemas that an object is

-- a record: its fields, and its name
abbrev pub record_at : Reader → List ℕ → Seen → Members → Result (Schema × Seen) SchemaRefusal
record_at schema_in scope seen members = do
  values ← list_at (codes "fields") members
  name ← name_at scope seen members
  fields ← under (codes "fields") (fields_at (schema_in (namespace_of name)) 1 [] (begun seen name) values)
  Ok (schemas.Rec name fields.0, defined fields.1 name (schemas.Rec name fields.0))

-- an enum: its name, and its symbols
abbrev pub enum_at : List ℕ → Seen → Members → Result (Schema × Seen) SchemaRefusal
enum_at scope seen members = do
  name ← name_at scope seen members
  values ← list_at (codes "symbols") members
  symbols ← under (codes "symbols") (texts_at 1 [] values)
  Ok (schemas.Enum name symbols, defined seen name (schemas.Enum name symbols))

-- a fixed: its name, and its size
abbrev pub fixed_at : List ℕ → Seen → Members → Result (Schema × Seen) SchemaRefusal
fixed_at scope seen members = do
  name ← name_at scope seen members
  bytes ← fixed_size_at (codes "size") members
  Ok (schemas.Fixed name bytes, defined seen name (schemas.Fixed name bytes))

-- an array: the schema of its items
abbrev pub array_at : Reader → List ℕ → Seen → Members → Result (Schema × Seen) SchemaRefusal
array_at schema_in scope seen members = do
  id ← id_at (codes "element-id") members
  value ← needed (codes "items") members
  items ← under (codes "items") (schema_in scope seen value)
  Ok (schemas.Array items.0 id (is_text (get_member (codes "logicalType") members) (codes "map")), items.1)

-- a map: the schema of its values
abbrev pub map_at : Reader → List ℕ → Seen → Members → Result (Schema × Seen) SchemaRefusal
map_at schema_in scope seen members = do
  key_id ← id_at (codes "key-id") members
  value_id ← id_at (codes "value-id") members
  value ← needed (codes "values") members
  values ← under (codes "values") (schema_in scope seen value)
  Ok (schemas.Map values.0 key_id value_id, values.1)

-- an object whose type is no primitive one
abbrev pub complex_at : Reader → List ℕ → Seen → Members → List ℕ → Result (Schema × Seen) SchemaRefusal
complex_at schema_in scope seen members word =
    if bytes_eq word (codes "record") then record_at schema_in scope seen members
    else (if bytes_eq word (codes "enum") then enum_at scope seen members
    else (if bytes_eq word (codes "fixed") then fixed_at scope seen members
    else (if bytes_eq word (codes "array") then array_at schema_in scope seen members
    else (if bytes_eq word (codes "map") then map_at schema_in scope seen members
    else Err (Form (codes "type"))))))

-- an object, by the word of its type
abbrev pub typed_at : Reader → List ℕ → Seen → Members → List ℕ → Option Schema → Result (Schema × Seen) SchemaRefusal
typed_at schema_in scope seen members word (Some primitive) = Ok (logical_of word members primitive, seen)
typed_at schema_in scope seen members word None = complex_at schema_in scope seen members word

-- a union: its branches, of which there is one at least
abbrev pub union_at : Reader → List ℕ → ℕ → Seen → List Data → Result (Schema × Seen) SchemaRefusal
union_at schema_in scope room seen [] = Err (Form [])
union_at schema_in scope room seen (value ∷ values) =
    counted room 1 1 seen >>= λ after.
    map_value (λ branches. (schemas.Union branches.0, branches.1))
    (branches_at (schema_in scope) 1 [] after (value ∷ values))

-- ---- a schema

-- a schema, over the reader of those in it, where so many levels may stand from it down
abbrev pub layer_at : Reader → ℕ → Reader
layer_at schema_in room scope seen null = Err (Form [])
layer_at schema_in room scope seen (boolean flag) = Err (Form [])
layer_at schema_in room scope seen (number num) = Err (Form [])
layer_at schema_in room scope seen (string word) = word_at room scope seen word (primitive_of word)
layer_at schema_in room scope seen (array items) = union_at schema_in scope room seen (values_of items)
layer_at schema_in room scope seen (object members) = do
  after ← counted room 1 1 seen
  word ← text_at (codes "type") members
  typed_at schema_in scope after members word (primitive_of word)

-- no level is left
abbrev pub no_schema : Reader
no_schema scope seen value = Err Nesting

-- a schema at most so deep, in a namespace, where this was met before it: what it is, and what was met then;
-- or the first place from the top that is none
unfoldable pub schema_at : ℕ → Reader
schema_at zero = layer_at no_schema 0
schema_at (suc room) = layer_at (schema_at room) (suc room)

-- the schema that a JSON value is
abbrev pub schema_of_value : Data → Result Schema SchemaRefusal
schema_of_value value = map_value (λ read. read.0) (schema_at 64 [] nothing_seen value)

-- the schema of a JSON text, if it is one
abbrev pub schema_of_json : Option Data → Result Schema SchemaRefusal
schema_of_json None = Err NotJson
schema_of_json (Some value) = schema_of_value value

-- the schema that a text is
unfoldable pub schema_of : List ℕ → Result Schema SchemaRefusal
schema_of text = schema_of_json (value_of text)
