-- What a call answers of a text.
use Rattle.std.proofs.Common.{ℕ, List, Result, Ok, Err, IfOk, subst}
use Rattle.words.specs.Reading.{Gives}
use Rattle.schema_tree.specs.declared.schema.Schema.{Schema}
use Rattle.avro_schema.specs.declared.refusal.SchemaRefusal.{SchemaRefusal}
use Rattle.avro_schema.specs.Refusal.{is_memory}
use Rattle.avro_schema.specs.Reading.{schema_of}
use Rattle.avro_schema.specs.Meaning.{IsSchemaText}
use Rattle.avro_schema.proofs.TextMeaning.{schema_found, schema_only}

-- what is answered is the schema that the text is
pub answers_found : (text : List ℕ) (result : Result Schema SchemaRefusal) → Gives is_memory (λ schema. schema) result (schema_of text) → IfOk result (λ schema. IsSchemaText text schema)
answers_found text (Ok schema) given = schema_found text schema given
answers_found text (Err e) given = tt

-- the schema that the text is is answered, unless memory ran out
pub answers_only : (text : List ℕ) (result : Result Schema SchemaRefusal) → Gives is_memory (λ schema. schema) result (schema_of text)
    → (schema : Schema) → IsSchemaText text schema → Gives is_memory (λ schema. schema) result (Ok schema)
answers_only text result given schema is = subst (Gives is_memory (λ schema. schema) result) (schema_only text schema is) given

-- for the clauses of a call
pub ruleset answers = (answers_found, answers_only)
