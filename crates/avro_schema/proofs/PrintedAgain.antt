-- The text of a schema is read as the schema.
use Rattle.std.specs.List.{list_any}
use Rattle.std.proofs.Common.{◌≡◌, ℕ, ◌≤◌, ◌∷◌, true, false, List, [], Some, Ok, option_and_then, refl, sym, ap, ◌∙◌}
use Rattle.std.proofs.Common.{arith, append-nil}
use Rattle.std.proofs.lemmas.Str.{is_utf8-from_IsUtf8}
use Rattle.std.specs.Str.{IsUtf8}
use Rattle.json.specs.Print.{print}
use Rattle.json.specs.Json as json
use Rattle.json.specs.Tree as tree
use Rattle.json.proofs.Printed.Tokens.{tokens-print}
use Rattle.json.proofs.Printed.Trees.{value-json_tokens, ArePrintable-json_tokens}
use Rattle.serde_json.specs.Read.{read, of_json, max_depth}
use Rattle.words.specs.Reading.{map_value}
use Rattle.schema_tree.specs.declared.schema.Schema.{Schema}
use Rattle.avro_schema.specs.Printing.{schema_text}
use Rattle.avro_schema.specs.Printable.{spelled, IsPrintable}
use Rattle.schema_tree.specs.Ids.{has_ids}
use Rattle.avro_schema.specs.Defined.{nothing_seen, is_taken}
use Rattle.json_members.specs.ParseLaws.{value_of_json}
use Rattle.avro_schema.specs.Reading.{schema_of, schema_of_json}
use Rattle.schema_tree.specs.Inductions.{every}
use Rattle.avro_schema.proofs.Known.{IsKnown}
use Rattle.avro_schema.proofs.KnownLeaves.{null_known, boolean_known, int_known, long_known, float_known}
use Rattle.avro_schema.proofs.KnownLeaves.{double_known, raw_known, str_known}
use Rattle.avro_schema.proofs.KnownNamed.{fixed_known, enum_known}
use Rattle.avro_schema.proofs.KnownArrays.{array_known}
use Rattle.avro_schema.proofs.KnownMaps.{map_known}
use Rattle.avro_schema.proofs.KnownUnions.{union_known}
use Rattle.avro_schema.proofs.KnownRecords.{record_known}

-- each schema that can be spelled is known
pub known : (schema : Schema) → IsKnown schema
known =
    every IsKnown (record {
      null = null_known;
      boolean = boolean_known;
      int = int_known;
      long = long_known;
      float = float_known;
      double = double_known;
      raw = raw_known;
      str = str_known;
      fixed = fixed_known;
      enum = enum_known;
      rec = record_known;
      array = array_known;
      map_of = map_known;
      union = union_known;
    })

-- a JSON value is read from its tokens
json_again : (value : json.Json) → tree.HasNumbers value → tree.depth value ≤ max_depth → read (print (tree.json_tokens value)) ≡ of_json value
json_again value numbers shallow =
    ap (λ tokens. option_and_then of_json (option_and_then (λ p. json.if_last p.0 p.1) (json.value max_depth tokens)))
    (tokens-print (tree.json_tokens value) (ArePrintable-json_tokens value numbers) ∙ sym (append-nil (tree.json_tokens value)))
    ∙ ap (λ found. option_and_then of_json (option_and_then (λ p. json.if_last p.0 p.1) found)) (value-json_tokens value max_depth [] shallow)

-- what is printed is read
pub schema_again : (schema : Schema) → IsPrintable schema → has_ids schema ≡ true → IsUtf8 (schema_text schema) → schema_of (schema_text schema) ≡ Ok schema
unfolding schema_text schema_of
schema_again schema printable fits utf8 =
    let k = known schema printable.right fits in
    let done = k.reads 64 nothing_seen printable.depth (omega (arith, printable.size)) printable.once (none_taken (spelled schema).names) in
    let value_is : read (schema_text schema) ≡ Some k.value =
    ap (λ tokens. read (print tokens)) k.tokens ∙ json_again k.text k.numbers (omega (arith, k.levels, printable.levels)) ∙ k.data_is in
    let right = is_utf8-from_IsUtf8 (schema_text schema) utf8 in
    ap schema_of_json (value_of_json (schema_text schema) k.value right value_is)
    ∙ ap (map_value (λ read. read.0)) done.is
  where
    none_taken : (names : List (List ℕ)) → list_any (λ name. is_taken [] name) names ≡ false
    none_taken [] = refl
    none_taken (name ∷ names) = none_taken names
