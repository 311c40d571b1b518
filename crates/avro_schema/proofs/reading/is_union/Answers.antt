use Rattle.std.proofs.Common.{rules}
use Rattle.avro_schema.proofs.reading.is_union.Goals as goal

pub returns : goal.returns
returns c = search rules
