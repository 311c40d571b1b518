-- The laws of the layers below a file of rows: what is read of the bytes of a container, of the text of a schema and of
-- the bytes of a record is what they are.
use Rattle.std.specs.Prelude.{◌≡◌, ℕ, ◌≤◌, List, length, Ok}
use Rattle.schema_tree.specs.declared.schema.Schema.{Schema}
use Rattle.avro_schema.specs.Meaning.{IsSchemaText}
use Rattle.avro_schema.specs.Reading.{schema_of}
use Rattle.avro_container.specs.declared.container.Container.{Container}
use Rattle.avro_container.specs.Container.{most_bytes, container_at}
use Rattle.avro_container.specs.Format.{IsContainer}
use Rattle.fields.specs.declared.wanted.Wanted.{Wanted}
use Rattle.fields.specs.Record.{RecordAgrees}

pub record Laws : Type 0 where
  pub container_found : (input : List ℕ) (container : Container)
      → container_at input ≡ Ok container → IsContainer input container
  pub container_only : (input : List ℕ) (container : Container)
      → IsContainer input container → length input ≤ most_bytes → container_at input ≡ Ok container
  pub schema_found : (text : List ℕ) (schema : Schema) → schema_of text ≡ Ok schema → IsSchemaText text schema
  pub schema_only : (text : List ℕ) (schema : Schema) → IsSchemaText text schema → schema_of text ≡ Ok schema
  pub records : (schema : Schema) (wanted : List Wanted) → RecordAgrees schema wanted
