use Rattle.std.proofs.Common.{rules}
use Rattle.datum_reading.specs.Block.{head_at}
use Rattle.datum_reading.proofs.block.take_head.Goals as goal

pub returns-then-count-lt0-clause-exact : goal.returns-then-count-lt0-clause-exact
unfolding head_at
returns-then-count-lt0-clause-exact c = search rules
