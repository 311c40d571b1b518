-- Parts of the reading of a schema, as the code takes them.
use Rattle.std.specs.Prelude.{ℕ, zero, suc, List, Result, Ok, codes}
use Rattle.words.specs.Reading.{◌>>=◌}
use Rattle.serde_json.specs.Data.{Members}
use Rattle.schema_tree.specs.declared.schema.Field.{Field}
use Rattle.schema_tree.specs.declared.schema.Schema.{Schema}
use Rattle.avro_schema.specs.declared.refusal.SchemaRefusal.{SchemaRefusal}
use Rattle.avro_schema.specs.Defined.{Seen, defined}
use Rattle.avro_schema.specs.Member.{text_at}
use Rattle.avro_schema.specs.Reading.{Reader, no_schema, schema_at, new_field_name}

-- the reader of the schemas in one below which so many levels are left
unfoldable pub schema_below : ℕ → Reader
schema_below zero = no_schema
schema_below (suc room) = schema_at room

-- the name of a field after others
abbrev pub field_name_at : List Field → Members → Result (List ℕ) SchemaRefusal
field_name_at before members = text_at (codes "name") members >>= new_field_name before

-- a definition that is whole: its schema, and what was met then
abbrev pub whole : Seen → List ℕ → Schema → Result (Schema × Seen) SchemaRefusal
whole seen name schema = Ok (schema, defined seen name schema)
