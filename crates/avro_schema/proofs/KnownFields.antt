-- Fields: their texts are read again.
use Rattle.std.proofs.Common.{◌≡◌, ℕ, suc, ◌+◌, ◌≤◌, max, ℤ, Bool, true, false, not, List, [], ◌∷◌, ◌++◌, map}
use Rattle.std.proofs.Common.{flat_map, Option, Some, Ok, codes, decimal, option_map, option_and_then, refl, sym, ap}
use Rattle.std.proofs.Common.{ap₂, ◌∙◌, arith, append_assoc, append-nil}
use Rattle.std.proofs.lemmas.Bool.{and_parts, or_parts, or_from, not-true}
use Rattle.std.proofs.lemmas.List.Folds.{list_any-append}
use Rattle.std.proofs.lemmas.List.Sums.{sum_by-cons}
use Rattle.std.specs.List.{list_all, list_any, sum}
use Rattle.std.specs.Str.{bytes_eq}
use Rattle.json.specs.Token.{Token}
use Rattle.json.specs.Json as json
use Rattle.json.specs.Tree as tree
use Rattle.serde_json.specs.Data.{Data, string, object, Items, no_items, item, Members, no_members, put}
use Rattle.serde_json.specs.Read.{of_json, of_items, of_members}
use Rattle.serde_json.specs.Find.{get_member}
use Rattle.words.specs.Reading.{◌>>=◌}
use Rattle.schema_tree.specs.declared.schema.Schema.{Schema}
use Rattle.schema_tree.specs.declared.schema.Field.{Field, out-Field, roll-Field}
use Rattle.schema_tree.specs.declared.schema.Schema.TheViews.{roll-out-Field}
use Rattle.avro_schema.specs.Refusal.{under}
use Rattle.avro_schema.specs.Printing.{Written, written, written_of, written_field, id_member, default_member}
use Rattle.avro_schema.specs.Printing.{all_tokens}
use Rattle.avro_schema.specs.Printable.{Spelled, SpelledField, spelled, spelled_of, spelled_field, are_distinct}
use Rattle.avro_schema.specs.Printable.{levels_of, schemas_of, field_names, field_levels}
use Rattle.schema_tree.specs.Tree.{depth, size, depth_of, size_of, number_of_field, largest}
use Rattle.schema_tree.specs.Ids.{is_id, all_true, has_ids, ids_of, ids_of_field}
use Rattle.avro_schema.specs.Defined.{Seen}
use Rattle.avro_schema.specs.Member.{values_of, id_at, text_at, needed, or_form}
use Rattle.avro_schema.specs.Reading.{field_at, fields_at, new_field_name, has_field, schema_at}
use Rattle.schema_tree.specs.Equations.{of_field}
use Rattle.schema_tree.specs.Inductions.{Each}
use Rattle.avro_schema.proofs.TakenLaws.{AreFree, parted, still_free, free_parts, keeps_then}
use Rattle.avro_schema.proofs.WrittenParts.{id_json, id_tokens, id_numbers, id_depth, id_read, default_json}
use Rattle.avro_schema.proofs.WrittenParts.{default_put, default_tokens, default_numbers, default_depth, default_read}
use Rattle.avro_schema.proofs.WrittenParts.{field_members, field_name, field_type, field_id}
use Rattle.avro_schema.proofs.Known.{Reads, Known, IsKnown}

-- the names that schemas define
abbrev pub names_of : List Spelled → List (List ℕ)
names_of parts = flat_map (λ (part : Spelled). part.names) parts

-- ---- fields, by their schemas

abbrev pub field_schema : Field → Schema
field_schema field = (out-Field field).schema

abbrev pub field_written : Field → Written
field_written = of_field written_of written_field

abbrev pub field_spelled : Field → SpelledField
field_spelled = of_field spelled_of spelled_field

abbrev pub field_depth : Field → ℕ
field_depth = of_field depth_of number_of_field

abbrev pub field_size : Field → ℕ
field_size = of_field size_of number_of_field

abbrev pub field_ids : Field → Bool
field_ids = of_field ids_of ids_of_field

-- the names that fields define in their schemas
abbrev pub inner_names : List Field → List (List ℕ)
inner_names fields = names_of (schemas_of (map field_spelled fields))

-- ---- one field

field_text : List ℕ → json.Json → Bool → Option ℤ → json.Json
field_text name type first id =
    json.object (json.member (codes "name") (json.string name) (json.member (codes "type") type (default_json first (id_json (codes "field-id") id json.no_members))))

field_reads : (room : ℕ) (before : List Field) (seen : Seen) (members : Members) (id : Option ℤ) (name : List ℕ) (value : Data) (schema : Schema) (done : Seen)
    → id_at (codes "field-id") members ≡ Ok id → text_at (codes "name") members ≡ Ok name → has_field before name ≡ false → get_member (codes "type") members ≡ Some value → schema_at room [] seen value ≡ Ok (schema, done)
    → field_at (schema_at room []) before seen (object members) ≡ Ok (roll-Field (record { name = name; id = id; schema = schema }), done)
field_reads room before seen members id name value schema done id_is name_is new value_is read =
    ap (λ read. read >>= λ id. text_at (codes "name") members >>= λ text. new_field_name before text >>= λ name. needed (codes "type") members >>= λ value.
    under (codes "type") (schema_at room [] seen value) >>= λ schema. Ok (roll-Field (record { name = name; id = id; schema = schema.0 }), schema.1)) id_is
    ∙ ap (λ read. read >>= λ text. new_field_name before text >>= λ name. needed (codes "type") members >>= λ value. under (codes "type") (schema_at room [] seen value) >>= λ schema. Ok (roll-Field (record { name = name; id = id; schema = schema.0 }), schema.1)) name_is
    ∙ ap (λ read. read >>= λ name. needed (codes "type") members >>= λ value. under (codes "type") (schema_at room [] seen value) >>= λ schema. Ok (roll-Field (record { name = name; id = id; schema = schema.0 }), schema.1)) (new_name before name new)
    ∙ ap (λ found. or_form (codes "type") found >>= λ value. under (codes "type") (schema_at room [] seen value) >>= λ schema. Ok (roll-Field (record { name = name; id = id; schema = schema.0 }), schema.1)) value_is
    ∙ ap (λ read. under (codes "type") read >>= λ schema. Ok (roll-Field (record { name = name; id = id; schema = schema.0 }), schema.1)) read
  where
    new_name : (before : List Field) (name : List ℕ) → has_field before name ≡ false → new_field_name before name ≡ Ok name
    new_name before name new = rw new refl

-- ---- fields

-- fields: the JSON values that their texts are, and that they are read
pub record KnownFields (fields : List Field) : Type 0 where
  pub texts : json.Items
  pub values : Items
  pub tokens : all_tokens (map field_written fields) ++ Token.end_array ∷ [] ≡ tree.items_tokens texts
  pub numbers : tree.ItemsHaveNumbers texts
  pub levels : tree.items_depth texts ≤ field_levels (map field_spelled fields)
  pub data_is : of_items texts ≡ Some values
  pub reads : (room place : ℕ) (before : List Field) (seen : Seen) → largest (map field_depth fields) ≤ room → seen.count + sum (map field_size fields) ≤ 65536
      → are_distinct (inner_names fields) ≡ true → AreFree seen.names (inner_names fields)
      → are_distinct (field_names (map field_spelled fields)) ≡ true → list_any (has_field before) (field_names (map field_spelled fields)) ≡ false
      → Reads seen (inner_names fields) (sum (map field_size fields)) (before ++ fields) (fields_at (schema_at room []) place before seen (values_of values))

-- no field
no_fields : KnownFields []
unfolding fields_at
no_fields =
    record {
      texts = json.no_items;
      values = no_items;
      tokens = refl;
      numbers = tt;
      levels = omega arith;
      data_is = refl;
      reads = λ room place before seen deep large once free apart new. record { after = seen; is = ap (λ l. Ok (l, seen)) (sym (append-nil before)); count = omega arith; keeps = λ asked other free. free };
    }

-- names that no field has are still new behind a field of another name
still_new : (before : List Field) (field : Field) (names : List (List ℕ)) → list_any (has_field before) names ≡ false → list_any (bytes_eq (out-Field field).name) names ≡ false → list_any (has_field (before ++ field ∷ [])) names ≡ false
still_new before field [] new apart = refl
still_new before field (name ∷ names) new apart =
    let news = or_parts (has_field before name) _ new in
    let aparts = or_parts (bytes_eq (out-Field field).name name) _ apart in
    let mine : has_field (before ++ field ∷ []) name ≡ false = list_any-append (λ (field : Field). bytes_eq (out-Field field).name name) before (field ∷ []) ∙ or_from _ _ news.0 (or_from _ false aparts.0 refl) in
    or_from (has_field (before ++ field ∷ []) name) _ mine (still_new before field names news.1 aparts.1)

-- a list of fields nests one deeper than their schemas
levels_within : (fields : List SpelledField) → field_levels fields ≤ suc (levels_of (schemas_of fields))
levels_within [] = omega arith
levels_within (field ∷ fields) = omega arith

-- a field, and those behind it
fields_step : (room place : ℕ) (before : List Field) (seen : Seen) (value : Data) (values : List Data) (field : Field) (between : Seen) (fields : List Field) (after : Seen) → field_at (schema_at room []) before seen value ≡ Ok (field, between)
    → fields_at (schema_at room []) (place + 1) (before ++ field ∷ []) between values ≡ Ok ((before ++ field ∷ []) ++ fields, after) → fields_at (schema_at room []) place before seen (value ∷ values) ≡ Ok (before ++ field ∷ fields, after)
unfolding fields_at
fields_step room place before seen value values field between fields after first rest =
    ap (λ read. under (decimal place) read >>= λ field. fields_at (schema_at room []) (place + 1) (before ++ field.0 ∷ []) field.1 values) first ∙ rest ∙ ap (λ l. Ok (l, after)) (append_assoc before (field ∷ []) fields)

module _ (field : Field) (fields : List Field) (k : Known (field_schema field) (written (field_schema field)) (spelled (field_schema field)) (depth (field_schema field)) (size (field_schema field))) (fits : is_id (out-Field field).id ≡ true) (more : KnownFields fields) where
  abbrev own_name : List ℕ
  own_name = (out-Field field).name

  abbrev own_first : Bool
  own_first = (written (field_schema field)).begins_with_null

  abbrev own_members : Members
  own_members = field_members own_name k.value own_first (out-Field field).id

  field_then : (room place : ℕ) (before : List Field) (seen : Seen) → largest (map field_depth (field ∷ fields)) ≤ room → seen.count + sum (map field_size (field ∷ fields)) ≤ 65536
      → are_distinct (inner_names (field ∷ fields)) ≡ true → AreFree seen.names (inner_names (field ∷ fields))
      → are_distinct (field_names (map field_spelled (field ∷ fields))) ≡ true → list_any (has_field before) (field_names (map field_spelled (field ∷ fields))) ≡ false
      → Reads seen (inner_names (field ∷ fields)) (sum (map field_size (field ∷ fields))) (before ++ field ∷ fields) (fields_at (schema_at room []) place before seen (values_of (item (object own_members) more.values)))
  field_then room place before seen deep large once free apart new =
      let mine = (spelled (field_schema field)).names in
      let others = inner_names fields in
      let names = field_names (map field_spelled fields) in
      let parts = parted mine others once in
      let frees = free_parts seen.names mine others free in
      let aparts = and_parts (not (list_any (bytes_eq own_name) names)) (are_distinct names) apart in
      let news = or_parts (has_field before own_name) _ new in
      let total : sum (map field_size (field ∷ fields)) ≡ size (field_schema field) + sum (map field_size fields) = sum_by-cons (λ n. n) (size (field_schema field)) (map field_size fields) in
      let deepest : largest (map field_depth (field ∷ fields)) ≡ max (depth (field_schema field)) (largest (map field_depth fields)) = refl in
      let one = k.reads room seen (omega (arith, deepest)) (omega (arith, total)) parts.first frees.0 in
      let rest = more.reads room (place + 1) (before ++ field ∷ []) one.after (omega (arith, deepest)) (omega (arith, total, one.count)) parts.second (still_free seen.names one.after.names mine others one.keeps parts.apart frees.1) aparts.1
      (still_new before field names news.1 (not-true _ aparts.0)) in
      record {
        after = rest.after;
        is = fields_step room place before seen (object own_members) (values_of more.values) field one.after fields rest.after
            (field_reads room before seen own_members (out-Field field).id own_name k.value (field_schema field) one.after (field_id own_name k.value own_first (out-Field field).id fits)
            (field_name own_name k.value own_first (out-Field field).id) news.0 (field_type own_name k.value own_first (out-Field field).id) one.is
            ∙ ap (λ field. Ok (field, one.after)) (roll-out-Field field))
            rest.is;
        count = omega (arith, total, one.count, rest.count);
        keeps = keeps_then seen.names one.after.names rest.after.names mine others one.keeps rest.keeps;
      }

  one_field : KnownFields (field ∷ fields)
  unfolding field_text
  one_field =
      let id = (out-Field field).id in
      let ids = id_json (codes "field-id") id json.no_members in
      let rest = default_json own_first ids in
      let mark = default_member own_first in
      let member = id_member (codes "field-id") id in
      let w = (written (field_schema field)).tokens in
      let found = put (codes "name") (string own_name) no_members in
      let typed_found = put (codes "type") k.value found in
      let text_read : of_json (field_text own_name k.text own_first id) ≡ Some (object own_members) =
      ap (option_map object)
      (ap (λ read. option_and_then (λ d. of_members rest (put (codes "type") d found)) read) k.data_is
      ∙ default_read own_first ids typed_found
      ∙ id_read (codes "field-id") id json.no_members (default_put own_first typed_found) fits) in
      record {
        texts = json.item (field_text own_name k.text own_first id) more.texts;
        values = item (object own_members) more.values;
        tokens = append_assoc (field_written field).tokens (all_tokens (map field_written fields)) (Token.end_array ∷ [])
            ∙ ap₂ (λ a b. a ++ b)
            (ap (λ l. Token.begin_object ∷ Token.key (codes "name") ∷ Token.string own_name ∷ Token.key (codes "type") ∷ l)
            (append_assoc w (mark ++ member) (Token.end_object ∷ [])
            ∙ ap₂ (λ a b. a ++ b) k.tokens
            (append_assoc mark member (Token.end_object ∷ []) ∙ ap (λ l. mark ++ l) (sym (id_tokens (codes "field-id") id json.no_members)) ∙ sym (default_tokens own_first ids))))
            more.tokens;
        numbers = ((tt, (k.numbers, default_numbers own_first ids (id_numbers (codes "field-id") id json.no_members fits tt))), more.numbers);
        levels = omega (arith, k.levels, default_depth own_first ids, id_depth (codes "field-id") id json.no_members, more.levels, levels_within (map field_spelled fields));
        data_is = ap (λ read. option_and_then (λ d. option_map (item d) (of_items more.texts)) read) text_read ∙ ap (λ read. option_map (item (object own_members)) read) more.data_is;
        reads = field_then;
      }

-- fields that can be spelled
pub known_fields : (fields : List Field) → Each (λ field. IsKnown (field_schema field)) fields → list_all (λ (part : Spelled). part.right) (schemas_of (map field_spelled fields)) ≡ true → all_true (map field_ids fields) ≡ true → KnownFields fields
known_fields [] each right fits = no_fields
known_fields (field ∷ fields) each right fits =
    let rights = and_parts (spelled (field_schema field)).right _ right in
    let ids = and_parts (field_ids field) _ fits in
    let mine = and_parts (has_ids (field_schema field)) (is_id (out-Field field).id) ids.0 in
    one_field field fields (each.0 rights.0 mine.0) mine.1 (known_fields fields each.1 rights.1 ids.1)
