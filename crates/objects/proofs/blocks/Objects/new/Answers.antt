use Rattle.std.proofs.Common.{refl}
use Rattle.objects.specs.BlocksLaws.{block_done}
use Rattle.objects.proofs.blocks.Objects.new.Goals as goal

pub returns-clause-left : goal.returns-clause-left
returns-clause-left g c = block_done (g.R.Object.at c.args.reader) _ _ _ 0 0 refl refl
