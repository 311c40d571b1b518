use Rattle.std.proofs.Common.{rules}
use Rattle.avro_wire.specs.Reading.{bytes_at}
use Rattle.avro_wire.proofs.reading.range_at.Goals as goal

pub returns-then-input-start-clause-exact : goal.returns-then-input-start-clause-exact
unfolding bytes_at
returns-then-input-start-clause-exact c = search rules

pub returns-clause-exact : goal.returns-clause-exact
unfolding bytes_at
returns-clause-exact c = search rules
