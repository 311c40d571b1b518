use Rattle.std.proofs.Common.{rules}
use Rattle.avro_container.specs.Header.{checked}
use Rattle.avro_container.proofs.header.check.Goals as goal

pub returns-in-None : goal.returns-in-None
unfolding checked
returns-in-None c = search rules
