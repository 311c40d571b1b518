use Rattle.std.proofs.Common.{rules}
use Rattle.avro_schema.proofs.refusal.SchemaRefusal.told.Goals as goal

pub returns-in-Unknown : goal.returns-in-Unknown
returns-in-Unknown c = search rules
