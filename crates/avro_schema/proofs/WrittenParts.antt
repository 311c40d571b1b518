-- The members of a schema's text, as JSON has them, and what is found in them once they are read.
use Rattle.std.proofs.Common.{◌≡◌, ℕ, ◌≤◌, ℤ, Bool, true, false, List, ◌++◌, Option, Some, None, Ok, codes}
use Rattle.std.proofs.Common.{option_and_then, option_map, refl, ap, arith}
use Rattle.std.specs.Fmt.{signed_decimal}
use Rattle.json.specs.Json as json
use Rattle.json.specs.Tree.{members_tokens, members_depth, MembersHaveNumbers}
use Rattle.serde_json.specs.Data.{Data, null, number, string, Members, no_members, put}
use Rattle.serde_json.specs.Read.{of_members}
use Rattle.serde_json.specs.Find.{of_integer, get_member}
use Rattle.words.specs.Reading.{map_value}
use Rattle.schema_tree.specs.Ids.{is_id}
use Rattle.avro_schema.specs.Printing.{id_member, keyed_member, default_member}
use Rattle.avro_schema.specs.Member.{text_at, id_at, or_form, is_text}
use Rattle.avro_schema.proofs.IdLaws.{id_is_number, id_number, id_int}

-- ---- a member that may be absent

-- an id before other members
abbrev pub id_json : List ℕ → Option ℤ → json.Members → json.Members
id_json key None rest = rest
id_json key (Some id) rest = json.member key (json.number (signed_decimal id)) rest

abbrev pub id_put : List ℕ → Option ℤ → Members → Members
id_put key None found = found
id_put key (Some id) found = put key (number (of_integer id)) found

pub id_tokens : (key : List ℕ) (id : Option ℤ) (rest : json.Members) → members_tokens (id_json key id rest) ≡ id_member key id ++ members_tokens rest
id_tokens key None rest = refl
id_tokens key (Some id) rest = refl

pub id_numbers : (key : List ℕ) (id : Option ℤ) (rest : json.Members) → is_id id ≡ true → MembersHaveNumbers rest → MembersHaveNumbers (id_json key id rest)
id_numbers key None rest fits numbers = numbers
id_numbers key (Some id) rest fits numbers = (id_is_number id fits, numbers)

pub id_depth : (key : List ℕ) (id : Option ℤ) (rest : json.Members) → members_depth (id_json key id rest) ≤ members_depth rest
id_depth key None rest = omega arith
id_depth key (Some id) rest = omega arith

pub id_read : (key : List ℕ) (id : Option ℤ) (rest : json.Members) (found : Members) → is_id id ≡ true → of_members (id_json key id rest) found ≡ of_members rest (id_put key id found)
id_read key None rest found fits = refl
id_read key (Some id) rest found fits = ap (λ read. option_and_then (λ d. of_members rest (put key d found)) (option_map number read)) (id_number id fits)

-- the mark of an array that stands for a map
abbrev pub keyed_json : Bool → json.Members → json.Members
keyed_json false rest = rest
keyed_json true rest = json.member (codes "logicalType") (json.string (codes "map")) rest

abbrev pub keyed_put : Bool → Members → Members
keyed_put false found = found
keyed_put true found = put (codes "logicalType") (string (codes "map")) found

pub keyed_tokens : (keyed : Bool) (rest : json.Members) → members_tokens (keyed_json keyed rest) ≡ keyed_member keyed ++ members_tokens rest
keyed_tokens false rest = refl
keyed_tokens true rest = refl

pub keyed_numbers : (keyed : Bool) (rest : json.Members) → MembersHaveNumbers rest → MembersHaveNumbers (keyed_json keyed rest)
keyed_numbers false rest numbers = numbers
keyed_numbers true rest numbers = (tt, numbers)

pub keyed_depth : (keyed : Bool) (rest : json.Members) → members_depth (keyed_json keyed rest) ≤ members_depth rest
keyed_depth false rest = omega arith
keyed_depth true rest = omega arith

pub keyed_read : (keyed : Bool) (rest : json.Members) (found : Members) → of_members (keyed_json keyed rest) found ≡ of_members rest (keyed_put keyed found)
keyed_read false rest found = refl
keyed_read true rest found = refl

-- the default value of a field
abbrev pub default_json : Bool → json.Members → json.Members
default_json false rest = rest
default_json true rest = json.member (codes "default") json.null rest

abbrev pub default_put : Bool → Members → Members
default_put false found = found
default_put true found = put (codes "default") null found

pub default_tokens : (first : Bool) (rest : json.Members) → members_tokens (default_json first rest) ≡ default_member first ++ members_tokens rest
default_tokens false rest = refl
default_tokens true rest = refl

pub default_numbers : (first : Bool) (rest : json.Members) → MembersHaveNumbers rest → MembersHaveNumbers (default_json first rest)
default_numbers false rest numbers = numbers
default_numbers true rest numbers = (tt, numbers)

pub default_depth : (first : Bool) (rest : json.Members) → members_depth (default_json first rest) ≤ members_depth rest
default_depth false rest = omega arith
default_depth true rest = omega arith

pub default_read : (first : Bool) (rest : json.Members) (found : Members) → of_members (default_json first rest) found ≡ of_members rest (default_put first found)
default_read false rest found = refl
default_read true rest found = refl

-- ---- an array

abbrev pub array_members : Bool → Data → Option ℤ → Members
array_members keyed items id = id_put (codes "element-id") id (put (codes "items") items (keyed_put keyed (put (codes "type") (string (codes "array")) no_members)))

pub array_type : (keyed : Bool) (items : Data) (id : Option ℤ) → text_at (codes "type") (array_members keyed items id) ≡ Ok (codes "array")
array_type false items None = refl
array_type true items None = refl
array_type false items (Some id) = refl
array_type true items (Some id) = refl

pub array_items : (keyed : Bool) (items : Data) (id : Option ℤ) → get_member (codes "items") (array_members keyed items id) ≡ Some items
array_items false items None = refl
array_items true items None = refl
array_items false items (Some id) = refl
array_items true items (Some id) = refl

pub array_keyed : (keyed : Bool) (items : Data) (id : Option ℤ) → is_text (get_member (codes "logicalType") (array_members keyed items id)) (codes "map") ≡ keyed
array_keyed false items None = refl
array_keyed true items None = refl
array_keyed false items (Some id) = refl
array_keyed true items (Some id) = refl

pub array_id : (keyed : Bool) (items : Data) (id : Option ℤ) → is_id id ≡ true → id_at (codes "element-id") (array_members keyed items id) ≡ Ok id
array_id false items None fits = refl
array_id true items None fits = refl
array_id false items (Some id) fits = ap (λ read. map_value Some (or_form (codes "element-id") read)) (id_int id fits)
array_id true items (Some id) fits = ap (λ read. map_value Some (or_form (codes "element-id") read)) (id_int id fits)

-- ---- a map

abbrev pub map_members : Data → Option ℤ → Option ℤ → Members
map_members values key_id value_id = id_put (codes "value-id") value_id (id_put (codes "key-id") key_id (put (codes "values") values (put (codes "type") (string (codes "map")) no_members)))

pub map_type : (values : Data) (key_id value_id : Option ℤ) → text_at (codes "type") (map_members values key_id value_id) ≡ Ok (codes "map")
map_type values None None = refl
map_type values None (Some value_id) = refl
map_type values (Some key_id) None = refl
map_type values (Some key_id) (Some value_id) = refl

pub map_values : (values : Data) (key_id value_id : Option ℤ) → get_member (codes "values") (map_members values key_id value_id) ≡ Some values
map_values values None None = refl
map_values values None (Some value_id) = refl
map_values values (Some key_id) None = refl
map_values values (Some key_id) (Some value_id) = refl

pub map_key : (values : Data) (key_id value_id : Option ℤ) → is_id key_id ≡ true → id_at (codes "key-id") (map_members values key_id value_id) ≡ Ok key_id
map_key values None None fits = refl
map_key values None (Some value_id) fits = refl
map_key values (Some key_id) None fits = ap (λ read. map_value Some (or_form (codes "key-id") read)) (id_int key_id fits)
map_key values (Some key_id) (Some value_id) fits = ap (λ read. map_value Some (or_form (codes "key-id") read)) (id_int key_id fits)

pub map_value_id : (values : Data) (key_id value_id : Option ℤ) → is_id value_id ≡ true → id_at (codes "value-id") (map_members values key_id value_id) ≡ Ok value_id
map_value_id values None None fits = refl
map_value_id values (Some key_id) None fits = refl
map_value_id values None (Some value_id) fits = ap (λ read. map_value Some (or_form (codes "value-id") read)) (id_int value_id fits)
map_value_id values (Some key_id) (Some value_id) fits = ap (λ read. map_value Some (or_form (codes "value-id") read)) (id_int value_id fits)

-- ---- a field

abbrev pub field_members : List ℕ → Data → Bool → Option ℤ → Members
field_members name type first id = id_put (codes "field-id") id (default_put first (put (codes "type") type (put (codes "name") (string name) no_members)))

pub field_name : (name : List ℕ) (type : Data) (first : Bool) (id : Option ℤ) → text_at (codes "name") (field_members name type first id) ≡ Ok name
field_name name type false None = refl
field_name name type true None = refl
field_name name type false (Some id) = refl
field_name name type true (Some id) = refl

pub field_type : (name : List ℕ) (type : Data) (first : Bool) (id : Option ℤ) → get_member (codes "type") (field_members name type first id) ≡ Some type
field_type name type false None = refl
field_type name type true None = refl
field_type name type false (Some id) = refl
field_type name type true (Some id) = refl

pub field_id : (name : List ℕ) (type : Data) (first : Bool) (id : Option ℤ) → is_id id ≡ true → id_at (codes "field-id") (field_members name type first id) ≡ Ok id
field_id name type false None fits = refl
field_id name type true None fits = refl
field_id name type false (Some id) fits = ap (λ read. map_value Some (or_form (codes "field-id") read)) (id_int id fits)
field_id name type true (Some id) fits = ap (λ read. map_value Some (or_form (codes "field-id") read)) (id_int id fits)
