-- What is read of an object is what it means.
use Rattle.std.proofs.Common.{◌≡◌, ℕ, ◌+◌, ◌≤◌, true, List, [], codes, Option, Some, None, Ok, Err, refl, sym, ap}
use Rattle.std.proofs.Common.{subst, ◌∙◌, arith}
use Rattle.std.proofs.lemmas.Slice.Eq.{bytes_eq-Decides}
use Rattle.std.specs.Str.{bytes_eq}
use Rattle.words.specs.Reading.{◌>>=◌}
use Rattle.serde_json.specs.Data.{object, Members}
use Rattle.serde_json.specs.Find.{get_member}
use Rattle.schema_tree.specs.declared.schema.Schema.{Schema}
use Rattle.schema_tree.specs.declared.schema.Schema.TheVariants as schemas
use Rattle.avro_schema.specs.declared.refusal.SchemaRefusal.TheVariants.{Form}
use Rattle.avro_schema.specs.Refusal.{under}
use Rattle.avro_schema.specs.Member.{needed, text_at, list_at, fixed_size_at, id_at, is_text}
use Rattle.avro_schema.specs.Defined.{Definitions, Seen, with_name, begun, defined}
use Rattle.schema_tree.specs.Names.{namespace_of}
use Rattle.avro_schema.specs.Reading.{Reader, primitive_of, logical_of, counted, name_at, fields_at, texts_at}
use Rattle.avro_schema.specs.Reading.{record_at, enum_at, fixed_at, array_at, map_at, complex_at, typed_at, layer_at}
use Rattle.avro_schema.specs.Meaning.{Means, primitive_type, record_type, enum_type, fixed_type, array_type, map_type}
use Rattle.avro_schema.specs.Meaning.{AreTexts, HasType}
use Rattle.words.specs.Steps.{bind_then, either_then, ok_is}
use Rattle.avro_schema.proofs.Steps.{count_then, more, under_ok}
use Rattle.schema_tree.specs.TreeLaws.{IsAlone, alone-Fixed, alone-Enum, depth-Rec, size-Rec, depth-Array, size-Array}
use Rattle.schema_tree.specs.TreeLaws.{depth-Map, size-Map}
use Rattle.avro_schema.proofs.PrimitiveLaws.{alone_primitive, alone_logical}
use Rattle.avro_schema.proofs.MeansPart.{name_found, needed_found, TextsFound, texts_found}
use Rattle.avro_schema.proofs.Found.{Found, Finds}
use Rattle.avro_schema.proofs.FoundFields.{FieldsFound, fields_found}

module _ (room : ℕ) (schema_in : Reader) (finds : Finds 1 room schema_in) (scope : List ℕ) (seen : Seen)
    (members : Members) (level : 1 ≤ room) (few : seen.count + 1 ≤ 65536) where
  -- a schema without another one in it
  alone_found : (schema : Schema) (names : Definitions) → IsAlone schema
      → Means scope seen.names (object members) schema names
      → Found 0 room scope seen (object members) (schema, record { names = names; count = seen.count + 1 })
  alone_found schema names alone means = record {
    means = means;
    count = ap (λ (n : ℕ). seen.count + n) (sym alone.size);
    deep = omega
        (arith, alone.depth, level);
    few = few;
  }

  -- an object that is read as a record is one
  record_found : (taken : Schema × Seen) → HasType members (codes "record")
      → record_at schema_in scope (more seen 1) members ≡ Ok taken → Found 0 room scope seen (object members) taken
  record_found taken typed read =
      bind_then (list_at (codes "fields") members) _ taken read (λ values values_are rest.
      bind_then (name_at scope (more seen 1) members) _ taken rest (λ name name_is rest.
      bind_then (under (codes "fields")
      (fields_at (schema_in (namespace_of name)) 1 [] (begun (more seen 1) name) values)) _ taken rest
      (λ fields fields_are done.
      let others : FieldsFound room (namespace_of name) [] (begun (more seen 1) name) values fields =
      fields_found room schema_in finds (namespace_of name) 1 values fields [] (begun (more seen 1) name) level few
      (under_ok (codes "fields") (fields_at (schema_in (namespace_of name)) 1 [] (begun (more seen 1) name) values)
      fields fields_are) in
      let found : Found 0 room scope seen (object members)
      (schemas.Rec name fields.0, defined fields.1 name (schemas.Rec name fields.0)) = record {
        means = record_type scope seen.names members name values fields.0 fields.1.names typed
            (name_found scope (more seen 1) members name name_is) values_are others.are;
        count = omega (arith, others.count, size-Rec name fields.0);
        deep = omega (arith, others.deep, depth-Rec name fields.0);
        few = others.few;
      } in
      subst (Found 0 room scope seen (object members))
      (ok_is (schemas.Rec name fields.0, defined fields.1 name (schemas.Rec name fields.0)) taken done) found)))

  -- one that is read as an enum
  enum_found : (taken : Schema × Seen) → HasType members (codes "enum")
      → enum_at scope (more seen 1) members ≡ Ok taken → Found 0 room scope seen (object members) taken
  enum_found taken typed read =
      bind_then (name_at scope (more seen 1) members) _ taken read (λ name name_is rest.
      bind_then (list_at (codes "symbols") members) _ taken rest (λ values values_are rest.
      bind_then (under (codes "symbols") (texts_at 1 [] values)) _ taken rest (λ symbols symbols_are done.
      let texts : TextsFound [] values symbols = texts_found 1 [] values symbols
      (under_ok (codes "symbols") (texts_at 1 [] values) symbols symbols_are) in
      let are : AreTexts values symbols = subst (AreTexts values) (sym texts.all_is) texts.are in
      let means = enum_type scope seen.names members name values symbols typed
      (name_found scope (more seen 1) members name name_is) values_are are in
      let found = alone_found (schemas.Enum name symbols)
      (with_name seen.names name (Some (schemas.Enum name symbols))) (alone-Enum name symbols) means in
      subst (Found 0 room scope seen (object members))
      (ok_is (schemas.Enum name symbols, defined (more seen 1) name (schemas.Enum name symbols)) taken done)
      found)))

  -- one that is read as a fixed
  fixed_found : (taken : Schema × Seen) → HasType members (codes "fixed")
      → fixed_at scope (more seen 1) members ≡ Ok taken → Found 0 room scope seen (object members) taken
  fixed_found taken typed read =
      bind_then (name_at scope (more seen 1) members) _ taken read (λ name name_is rest.
      bind_then (fixed_size_at (codes "size") members) _ taken rest (λ bytes bytes_are done.
      let means = fixed_type scope seen.names members name bytes typed
      (name_found scope (more seen 1) members name name_is) bytes_are in
      let found = alone_found (schemas.Fixed name bytes) (with_name seen.names name (Some (schemas.Fixed name bytes)))
      (alone-Fixed name bytes) means in
      subst (Found 0 room scope seen (object members))
      (ok_is (schemas.Fixed name bytes, defined (more seen 1) name (schemas.Fixed name bytes)) taken done) found))

  -- one that is read as an array
  array_found : (taken : Schema × Seen) → HasType members (codes "array")
      → array_at schema_in scope (more seen 1) members ≡ Ok taken → Found 0 room scope seen (object members) taken
  array_found taken typed read =
      bind_then (id_at (codes "element-id") members) _ taken read (λ id id_is rest.
      bind_then (needed (codes "items") members) _ taken rest (λ value value_is rest.
      bind_then (under (codes "items") (schema_in scope (more seen 1) value)) _ taken rest (λ items items_is done.
      let inside : Found 1 room scope (more seen 1) value items = finds scope (more seen 1) value items
      (under_ok (codes "items") (schema_in scope (more seen 1) value) items items_is) in
      let keyed = is_text (get_member (codes "logicalType") members) (codes "map") in
      let found : Found 0 room scope seen (object members) (schemas.Array items.0 id keyed, items.1) = record {
        means = array_type scope seen.names members id value items.0 items.1.names typed id_is
            (needed_found (codes "items") members value value_is) inside.means;
        count = omega (arith, inside.count, size-Array items.0 id keyed);
        deep = omega (arith, inside.deep, depth-Array items.0 id keyed);
        few = inside.few;
      } in
      subst (Found 0 room scope seen (object members)) (ok_is (schemas.Array items.0 id keyed, items.1) taken done)
      found)))

  -- one that is read as a map
  map_found : (taken : Schema × Seen) → HasType members (codes "map")
      → map_at schema_in scope (more seen 1) members ≡ Ok taken → Found 0 room scope seen (object members) taken
  map_found taken typed read =
      bind_then (id_at (codes "key-id") members) _ taken read (λ key_id key_is rest.
      bind_then (id_at (codes "value-id") members) _ taken rest (λ value_id id_is rest.
      bind_then (needed (codes "values") members) _ taken rest (λ value value_is rest.
      bind_then (under (codes "values") (schema_in scope (more seen 1) value)) _ taken rest (λ values values_is done.
      let inside : Found 1 room scope (more seen 1) value values = finds scope (more seen 1) value values
      (under_ok (codes "values") (schema_in scope (more seen 1) value) values values_is) in
      let found : Found 0 room scope seen (object members) (schemas.Map values.0 key_id value_id, values.1) = record {
        means = map_type scope seen.names members key_id value_id value values.0 values.1.names typed key_is id_is
            (needed_found (codes "values") members value value_is) inside.means;
        count = omega (arith, inside.count, size-Map values.0 key_id value_id);
        deep = omega (arith, inside.deep, depth-Map values.0 key_id value_id);
        few = inside.few;
      } in
      subst (Found 0 room scope seen (object members))
      (ok_is (schemas.Map values.0 key_id value_id, values.1) taken done) found))))

  -- the type is the word that it was tested for
  typed_as : (word this : List ℕ) → HasType members word → bytes_eq word this ≡ true → HasType members this
  typed_as word this typed same = typed ∙ ap Ok ((bytes_eq-Decides word this).0 same)

  -- an object whose type is no primitive one
  complex_found : (word : List ℕ) (taken : Schema × Seen) → HasType members word
      → complex_at schema_in scope (more seen 1) members word ≡ Ok taken
      → Found 0 room scope seen (object members) taken
  complex_found word taken typed read =
      either_then (bytes_eq word (codes "record")) (record_at schema_in scope (more seen 1) members) _ (Ok taken) read
      (λ same. record_found taken (typed_as word (codes "record") typed same))
      (λ read. either_then (bytes_eq word (codes "enum")) (enum_at scope (more seen 1) members) _ (Ok taken) read
      (λ same. enum_found taken (typed_as word (codes "enum") typed same))
      (λ read. either_then (bytes_eq word (codes "fixed")) (fixed_at scope (more seen 1) members) _ (Ok taken) read
      (λ same. fixed_found taken (typed_as word (codes "fixed") typed same))
      (λ read. either_then (bytes_eq word (codes "array")) (array_at schema_in scope (more seen 1) members) _
      (Ok taken) read (λ same. array_found taken (typed_as word (codes "array") typed same))
      (λ read. either_then (bytes_eq word (codes "map")) (map_at schema_in scope (more seen 1) members)
      (Err (Form (codes "type"))) (Ok taken) read
      (λ same. map_found taken (typed_as word (codes "map") typed same)) (λ read. absurd cc)))))

  -- an object, by the word of its type
  typed_found : (word : List ℕ) (primitive : Option Schema) (taken : Schema × Seen) → HasType members word
      → primitive_of word ≡ primitive → typed_at schema_in scope (more seen 1) members word primitive ≡ Ok taken
      → Found 0 room scope seen (object members) taken
  typed_found word None taken typed primitive read = complex_found word taken typed read
  typed_found word (Some schema) taken typed primitive read =
      let found = alone_found (logical_of word members schema) seen.names
      (alone_logical word members schema (alone_primitive word schema primitive))
      (primitive_type scope seen.names members word schema typed primitive) in
      subst (Found 0 room scope seen (object members))
      (ok_is (logical_of word members schema, more seen 1) taken read) found

-- an object that is read is the schema that it means
pub object_found : (room : ℕ) (schema_in : Reader) → Finds 1 room schema_in → (scope : List ℕ) (seen : Seen)
    (members : Members) (taken : Schema × Seen) → layer_at schema_in room scope seen (object members) ≡ Ok taken
    → Found 0 room scope seen (object members) taken
object_found room schema_in finds scope seen members taken read =
    bind_then (counted room 1 1 seen) _ taken read (λ after counts rest.
    count_then room 1 1 seen after counts (λ level few grown.
    let rest_of : (text_at (codes "type") members >>= λ word. typed_at schema_in scope (more seen 1) members word
    (primitive_of word)) ≡ Ok taken =
    subst (λ (s : Seen). (text_at (codes "type") members >>= λ word. typed_at schema_in scope s members word
    (primitive_of word)) ≡ Ok taken) (sym grown) rest in
    bind_then (text_at (codes "type") members) _ taken rest_of (λ word word_is rest.
    typed_found room schema_in finds scope seen members level few word (primitive_of word) taken word_is refl rest)))
