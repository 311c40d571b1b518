use Rattle.std.proofs.Common.{rules}
use Rattle.avro_container.specs.Container.{container_at}
use Rattle.avro_container.proofs.walk.walk_of.Goals as goal

pub returns-in_err-pairs-clause-exact : goal.returns-in_err-pairs-clause-exact
unfolding container_at
returns-in_err-pairs-clause-exact c = search rules
