use Rattle.std.proofs.Common.{rules}
use Rattle.avro_container.specs.Block.{frame_at}
use Rattle.avro_container.proofs.block.take_frame.Goals as goal

pub returns-clause-exact : goal.returns-clause-exact
unfolding frame_at
returns-clause-exact c = search rules
