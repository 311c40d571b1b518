use Rattle.std.proofs.Common.{rules}
use Rattle.avro_schema.proofs.definition.begin_record.Goals as goal

pub returns-clause-ok : goal.returns-clause-ok
returns-clause-ok c = search rules
