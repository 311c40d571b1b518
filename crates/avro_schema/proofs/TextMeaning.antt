-- A text is the schema that the reader makes of it, and no other.
use Rattle.std.proofs.Common.{◌≡◌, ℕ, List, [], Option, Some, None, Ok, refl, sym, ap, subst, ◌∙◌, arith}
use Rattle.words.specs.Reading.{map_value}
use Rattle.serde_json.specs.Data.{Data}
use Rattle.json_members.specs.Parsing.{value_of}
use Rattle.json_members.specs.ParseLaws.{value_of_json, json_of_value}
use Rattle.schema_tree.specs.declared.schema.Schema.{Schema}
use Rattle.avro_schema.specs.Defined.{Seen, nothing_seen}
use Rattle.avro_schema.specs.Reading.{schema_at, schema_of, schema_of_value, schema_of_json}
use Rattle.avro_schema.specs.Meaning.{Means, IsSchema, IsSchemaText}
use Rattle.words.specs.Steps.{map_then, ok_is}
use Rattle.avro_schema.proofs.Found.{Found as IsFound}
use Rattle.avro_schema.proofs.MeansFound.{finds_at}
use Rattle.avro_schema.proofs.Only.{IsRead}
use Rattle.avro_schema.proofs.MeansOnly.{means_only}

-- ---- the reader is right

-- a value is the schema that the reader makes of it
value_found : (value : Data) (schema : Schema) → schema_of_value value ≡ Ok schema → IsSchema value schema
value_found value schema is =
    map_then (λ (taken : Schema × Seen). taken.0) (schema_at 64 [] nothing_seen value) schema is (λ taken taken_is same.
    let found : IsFound 0 64 [] nothing_seen value taken = finds_at 64 [] nothing_seen value taken taken_is in
    let is_schema : IsSchema value taken.0 = record {
      names = taken.1.names;
      means = found.means;
      depth = omega (arith, found.deep);
      size = omega (arith, found.count, found.few);
    } in
    subst (IsSchema value) same is_schema)

-- a text is the schema that the reader makes of it
pub schema_found : (text : List ℕ) (schema : Schema) → schema_of text ≡ Ok schema → IsSchemaText text schema
unfolding schema_of
schema_found text schema is = by_value (value_of text) refl is
  where
    by_value : (json : Option Data) → value_of text ≡ json → schema_of_json json ≡ Ok schema → IsSchemaText text schema
    by_value None json_is is = absurd cc
    by_value (Some value) json_is is =
        let json = json_of_value text value json_is in
        record { value = value; utf8 = json.0; json = json.1; is_schema = value_found value schema is }

-- ---- the reader is complete

-- the reader makes of a value the schema that it is
value_only : (value : Data) (schema : Schema) → IsSchema value schema → schema_of_value value ≡ Ok schema
value_only value schema is =
    ap (map_value (λ (taken : Schema × Seen). taken.0)) (read_from is.means 64 0 is.depth (omega (arith, is.size)))
  where
    read_from : Means [] [] value schema is.names → IsRead [] [] value schema is.names
    read_from means = means_only means

-- the reader makes of a text the schema that it is
pub schema_only : (text : List ℕ) (schema : Schema) → IsSchemaText text schema → schema_of text ≡ Ok schema
unfolding schema_of
schema_only text schema is =
    ap schema_of_json (value_of_json text is.value is.utf8 is.json) ∙ value_only is.value schema is.is_schema

-- ---- one schema

-- a value is one schema at most
pub one_schema : (value : Data) (one other : Schema) → IsSchema value one → IsSchema value other → one ≡ other
one_schema value one other is also = ok_is one other (sym (value_only value one is) ∙ value_only value other also)

-- a text is one schema at most
pub one_schema_of_text : (text : List ℕ) (one other : Schema) → IsSchemaText text one → IsSchemaText text other
    → one ≡ other
one_schema_of_text text one other is also =
    ok_is one other (sym (schema_only text one is) ∙ schema_only text other also)
