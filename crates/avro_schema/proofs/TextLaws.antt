-- The schema of a text is that of its value.
use Rattle.std.proofs.Common.{◌≡◌, ℕ, List, [], Some, None, Result, Ok, Err, refl, sym, ap, ◌∙◌}
use Rattle.words.specs.Laws.{refused_so}
use Rattle.words.specs.Reading.{Gives, map_value}
use Rattle.serde_json.specs.Data.{Data}
use Rattle.json_members.specs.Parsing.{value_of}
use Rattle.schema_tree.specs.declared.schema.Schema.{Schema}
use Rattle.avro_schema.specs.declared.refusal.SchemaRefusal.{SchemaRefusal}
use Rattle.avro_schema.specs.declared.refusal.SchemaRefusal.TheVariants.{NotJson}
use Rattle.avro_schema.specs.Refusal.{is_memory}
use Rattle.avro_schema.specs.Defined.{Seen, nothing_seen}
use Rattle.avro_schema.specs.Reading.{Reader, schema_at, schema_of, schema_of_value, schema_of_json}
use Rattle.avro_schema.specs.Parts.{schema_below}

-- a text without a value is no schema
pub no_value : (text : List ℕ) → None ≡ value_of text → schema_of text ≡ Err NotJson
unfolding schema_of
no_value text none = ap schema_of_json (sym none)

-- the schema of a text is that of its value
of_value : (text : List ℕ) (value : Data) → Some value ≡ value_of text → schema_of text ≡ schema_of_value value
unfolding schema_of
of_value text value is = ap schema_of_json (sym is)

-- 64 levels may stand below the first one
top : schema_below 65 ≡ schema_at 64
unfolding schema_below
top = refl

-- what is read of the value is what is read of the text
pub schema_read : (text : List ℕ) (value : Data) (old seen : Seen) (result : Result Schema SchemaRefusal) → Some value ≡ value_of text → old ≡ nothing_seen
    → Gives is_memory (λ schema. (schema, seen)) result (schema_below 65 [] old value)
    → Gives is_memory (λ schema. schema) result (schema_of text)
schema_read text value old seen result is none given = last result given
  where
    -- the schema of the text, by what is read of its value
    whole : schema_of text ≡ map_value (λ (read : Schema × Seen). read.0) (schema_below 65 [] old value)
    whole =
        let first = ap (λ (reader : Reader). reader [] nothing_seen value) (sym top) in
        let same = first ∙ ap (λ (s : Seen). schema_below 65 [] s value) (sym none) in
        of_value text value is ∙ ap (map_value (λ (read : Schema × Seen). read.0)) same

    last : (result : Result Schema SchemaRefusal) → Gives is_memory (λ schema. (schema, seen)) result (schema_below 65 [] old value) → Gives is_memory (λ schema. schema) result (schema_of text)
    last (Ok schema) given = whole ∙ ap (map_value (λ (read : Schema × Seen). read.0)) given
    last (Err e) given = refused_so (is_memory e) (λ refused. whole ∙ ap (map_value (λ (read : Schema × Seen). read.0)) refused) given
