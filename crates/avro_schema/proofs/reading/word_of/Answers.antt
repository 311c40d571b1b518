use Rattle.std.proofs.Common.{rules}
use Rattle.avro_schema.proofs.reading.word_of.Goals as goal

pub returns : goal.returns
returns c = record { exact = search rules }
