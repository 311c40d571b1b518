-- Refusals of the parts of a data file, as those of the file.
use Rattle.std.specs.Prelude.{Bool, true, false}
use Rattle.limits.specs.declared.which.Which.TheVariants.{Object}
use Rattle.avro_container.specs.declared.refusal.ContainerRefusal.{ContainerRefusal}
use Rattle.avro_container.specs.declared.refusal.ContainerRefusal.TheVariants as containers
use Rattle.avro_schema.specs.declared.refusal.SchemaRefusal.{SchemaRefusal}
use Rattle.avro_schema.specs.declared.refusal.SchemaRefusal.TheVariants as schemas
use Rattle.stored_rows.specs.declared.refusal.RowRefusal.{RowRefusal}
use Rattle.stored_rows.specs.declared.refusal.RowRefusal.TheVariants.{Container, Schema, MissingColumn, Kind, Datum}
use Rattle.stored_rows.specs.declared.refusal.RowRefusal.TheVariants.{Rest, RecordCount, IdsSpent, Limit, Memory}

-- memory ran out, the one free answer
abbrev pub is_memory : RowRefusal → Bool
is_memory Memory = true
is_memory (Container refusal) = false
is_memory (Schema refusal) = false
is_memory (MissingColumn id) = false
is_memory (Kind id) = false
is_memory (Datum refusal) = false
is_memory (Rest block) = false
is_memory (RecordCount told found) = false
is_memory (IdsSpent first rows) = false
is_memory (Limit which found) = false

-- of the container: too many bytes are a limit of the file's own
abbrev pub container_refusal : ContainerRefusal → RowRefusal
container_refusal (containers.Limit found) = Limit Object found
container_refusal containers.Magic = Container containers.Magic
container_refusal (containers.Header place) = Container (containers.Header place)
container_refusal (containers.Codec name) = Container (containers.Codec name)
container_refusal (containers.Short place) = Container (containers.Short place)
container_refusal (containers.Form block) = Container (containers.Form block)
container_refusal (containers.Sync block) = Container (containers.Sync block)
container_refusal containers.Memory = Memory

-- of the schema
abbrev pub schema_refusal : SchemaRefusal → RowRefusal
schema_refusal schemas.NotJson = Schema schemas.NotJson
schema_refusal (schemas.Form path) = Schema (schemas.Form path)
schema_refusal (schemas.Unknown name) = Schema (schemas.Unknown name)
schema_refusal schemas.Nesting = Schema schemas.Nesting
schema_refusal schemas.Memory = Memory
