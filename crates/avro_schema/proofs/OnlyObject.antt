-- The schema that an object means is read of it, by what is read in it.
use Rattle.std.proofs.Common.{◌≡◌, ℕ, ◌+◌, ◌≤◌, ℤ, List, [], codes, Option, Some, None, Result, Ok, ap, ◌∙◌, arith}
use Rattle.serde_json.specs.Data.{Data, object, Members}
use Rattle.serde_json.specs.Find.{get_member}
use Rattle.schema_tree.specs.declared.schema.Schema.{Schema}
use Rattle.schema_tree.specs.declared.schema.Schema.TheVariants as schemas
use Rattle.schema_tree.specs.declared.schema.Field.{Field}
use Rattle.avro_schema.specs.declared.refusal.SchemaRefusal.{SchemaRefusal}
use Rattle.avro_schema.specs.Refusal.{under}
use Rattle.schema_tree.specs.Tree.{size}
use Rattle.schema_tree.specs.Measure.{size_of_fields}
use Rattle.avro_schema.specs.Member.{needed, text_at, list_at, fixed_size_at, id_at, is_text}
use Rattle.avro_schema.specs.Defined.{Definitions, Seen, with_name}
use Rattle.schema_tree.specs.Names.{namespace_of}
use Rattle.avro_schema.specs.Parts.{schema_below}
use Rattle.avro_schema.specs.Reading.{Reader, primitive_of, logical_of, name_at, fields_at, texts_at, typed_at}
use Rattle.avro_schema.specs.Reading.{schema_at}
use Rattle.avro_schema.specs.Meaning.{Defines, AreTexts, HasType}
use Rattle.avro_schema.proofs.PartLaws.{schema_layer}
use Rattle.words.specs.Steps.{bind_only}
use Rattle.avro_schema.proofs.Steps.{count_only, met}
use Rattle.schema_tree.specs.TreeLaws.{IsAlone, alone-Fixed, alone-Enum, depth-Rec, size-Rec, depth-Array, size-Array}
use Rattle.schema_tree.specs.TreeLaws.{depth-Map, size-Map}
use Rattle.avro_schema.proofs.PrimitiveLaws.{alone_primitive, alone_logical}
use Rattle.avro_schema.proofs.MeansPart.{name_only, needed_only, texts_only}
use Rattle.avro_schema.proofs.Only.{IsRead, AreFieldsRead, below_only, same_count}

module _ (scope : List ℕ) (names : Definitions) (members : Members) where
  -- an object, by the word of its type
  typed_only : (word : List ℕ) (room count : ℕ) (read : Result (Schema × Seen) SchemaRefusal) → HasType members word
      → 1 ≤ room → count + 1 ≤ 65536
      → typed_at (schema_below room) scope (met names (count + 1)) members word (primitive_of word) ≡ read
      → schema_at room scope (met names count) (object members) ≡ read
  typed_only word room count read typed level few rest =
      ap (λ (r : Reader). r scope (met names count) (object members)) (schema_layer room)
      ∙ bind_only _ _ (met names (count + 1)) read (count_only room 1 1 (met names count) level few)
      (bind_only (text_at (codes "type") members) _ word read typed rest)

  -- a primitive type with what is said of it
  pub primitive_type_only : (word : List ℕ) (schema : Schema) → HasType members word → primitive_of word ≡ Some schema
      → IsRead scope names (object members) (logical_of word members schema) names
  primitive_type_only word schema typed primitive room count deep few =
      let alone : IsAlone (logical_of word members schema) = alone_logical word members schema
      (alone_primitive word schema primitive) in
      typed_only word room count _ typed (omega (arith, alone.depth, deep)) (omega (arith, alone.size, few))
      (ap (typed_at (schema_below room) scope (met names (count + 1)) members word) primitive
      ∙ same_count (logical_of word members schema) names (count + 1) (count + size (logical_of word members schema))
      (omega (arith, alone.size)))

  -- a record
  pub record_only : (name : List ℕ) (values : List Data) (fields : List Field) (inside : Definitions)
      → HasType members (codes "record") → Defines scope names members name
      → list_at (codes "fields") members ≡ Ok values
      → AreFieldsRead (namespace_of name) (with_name names name None) [] values fields inside
      → IsRead scope names (object members) (schemas.Rec name fields)
      (with_name inside name (Some (schemas.Rec name fields)))
  record_only name values fields inside typed defines values_are are room count deep few =
      let deepest = depth-Rec name fields in
      let all = size-Rec name fields in
      let fields_read : fields_at (schema_below room (namespace_of name)) 1 []
      (met (with_name names name None) (count + 1)) values ≡ Ok
      (fields, met inside (count + 1 + size_of_fields fields)) =
      ap (λ (n : ℕ). fields_at (schema_below room (namespace_of name)) 1 [] (met (with_name names name None) n)
      values) (omega arith)
      ∙ are room (count + 1) 1 (omega (arith, deep, deepest)) (omega (arith, few, all)) in
      typed_only (codes "record") room count _ typed (omega (arith, deep, deepest)) (omega (arith, few, all))
      (bind_only (list_at (codes "fields") members) _ values _ values_are
      (bind_only (name_at scope (met names (count + 1)) members) _ name _
      (name_only scope (met names (count + 1)) members name defines)
      (bind_only (under (codes "fields")
      (fields_at (schema_below room (namespace_of name)) 1 [] (met (with_name names name None) (count + 1))
      values)) _ (fields, met inside (count + 1 + size_of_fields fields)) _
      (ap (under (codes "fields")) fields_read)
      (same_count (schemas.Rec name fields) (with_name inside name (Some (schemas.Rec name fields)))
      (count + 1 + size_of_fields fields) (count + size (schemas.Rec name fields)) (omega (arith, all))))))

  -- an enum
  pub enum_only : (name : List ℕ) (values : List Data) (symbols : List (List ℕ)) → HasType members (codes "enum")
      → Defines scope names members name → list_at (codes "symbols") members ≡ Ok values → AreTexts values symbols
      → IsRead scope names (object members) (schemas.Enum name symbols)
      (with_name names name (Some (schemas.Enum name symbols)))
  enum_only name values symbols typed defines values_are are room count deep few =
      let alone : IsAlone (schemas.Enum name symbols) = alone-Enum name symbols in
      typed_only (codes "enum") room count _ typed (omega (arith, alone.depth, deep)) (omega (arith, alone.size, few))
      (bind_only (name_at scope (met names (count + 1)) members) _ name _
      (name_only scope (met names (count + 1)) members name defines)
      (bind_only (list_at (codes "symbols") members) _ values _ values_are
      (bind_only (under (codes "symbols") (texts_at 1 [] values)) _ symbols _
      (ap (under (codes "symbols")) (texts_only 1 [] values symbols are))
      (same_count (schemas.Enum name symbols) (with_name names name (Some (schemas.Enum name symbols))) (count + 1)
      (count + size (schemas.Enum name symbols)) (omega (arith, alone.size))))))

  -- a fixed
  pub fixed_only : (name : List ℕ) (bytes : ℕ) → HasType members (codes "fixed") → Defines scope names members name
      → fixed_size_at (codes "size") members ≡ Ok bytes
      → IsRead scope names (object members) (schemas.Fixed name bytes)
      (with_name names name (Some (schemas.Fixed name bytes)))
  fixed_only name bytes typed defines bytes_are room count deep few =
      let alone : IsAlone (schemas.Fixed name bytes) = alone-Fixed name bytes in
      typed_only (codes "fixed") room count _ typed (omega (arith, alone.depth, deep)) (omega (arith, alone.size, few))
      (bind_only (name_at scope (met names (count + 1)) members) _ name _
      (name_only scope (met names (count + 1)) members name defines)
      (bind_only (fixed_size_at (codes "size") members) _ bytes _ bytes_are
      (same_count (schemas.Fixed name bytes) (with_name names name (Some (schemas.Fixed name bytes))) (count + 1)
      (count + size (schemas.Fixed name bytes)) (omega (arith, alone.size)))))

  -- an array
  pub array_only : (id : Option ℤ) (value : Data) (items : Schema) (after : Definitions)
      → HasType members (codes "array") → id_at (codes "element-id") members ≡ Ok id
      → get_member (codes "items") members ≡ Some value
      → IsRead scope names value items after
      → IsRead scope names (object members)
      (schemas.Array items id (is_text (get_member (codes "logicalType") members) (codes "map"))) after
  array_only id value items after typed id_is value_is is room count deep few =
      let keyed = is_text (get_member (codes "logicalType") members) (codes "map") in
      let deepest = depth-Array items id keyed in
      let all = size-Array items id keyed in
      typed_only (codes "array") room count _ typed (omega (arith, deep, deepest)) (omega (arith, few, all))
      (bind_only (id_at (codes "element-id") members) _ id _ id_is
      (bind_only (needed (codes "items") members) _ value _ (needed_only (codes "items") members value value_is)
      (bind_only (under (codes "items") (schema_below room scope (met names (count + 1)) value)) _
      (items, met after (count + 1 + size items)) _
      (ap (under (codes "items"))
      (below_only scope names value items after is room (count + 1) (omega (arith, deep, deepest))
      (omega (arith, few, all))))
      (same_count (schemas.Array items id keyed) after (count + 1 + size items)
      (count + size (schemas.Array items id keyed)) (omega (arith, all))))))

  -- a map
  pub map_only : (key_id value_id : Option ℤ) (value : Data) (values : Schema) (after : Definitions)
      → HasType members (codes "map") → id_at (codes "key-id") members ≡ Ok key_id
      → id_at (codes "value-id") members ≡ Ok value_id
      → get_member (codes "values") members ≡ Some value → IsRead scope names value values after
      → IsRead scope names (object members) (schemas.Map values key_id value_id) after
  map_only key_id value_id value values after typed key_is id_is value_is is room count deep few =
      let deepest = depth-Map values key_id value_id in
      let all = size-Map values key_id value_id in
      typed_only (codes "map") room count _ typed (omega (arith, deep, deepest)) (omega (arith, few, all))
      (bind_only (id_at (codes "key-id") members) _ key_id _ key_is
      (bind_only (id_at (codes "value-id") members) _ value_id _ id_is
      (bind_only (needed (codes "values") members) _ value _ (needed_only (codes "values") members value value_is)
      (bind_only (under (codes "values") (schema_below room scope (met names (count + 1)) value)) _
      (values, met after (count + 1 + size values)) _
      (ap (under (codes "values"))
      (below_only scope names value values after is room (count + 1) (omega (arith, deep, deepest))
      (omega (arith, few, all))))
      (same_count (schemas.Map values key_id value_id) after (count + 1 + size values)
      (count + size (schemas.Map values key_id value_id)) (omega (arith, all)))))))
