use Rattle.std.proofs.Common.{refl, ap, ◌∙◌}
use Rattle.objects.specs.Blocks.{blocks_from}
use Rattle.objects.specs.BlocksLaws.{block_done}
use Rattle.objects.proofs.blocks.Objects.restart.Goals as goal

pub returns-clause-left : goal.returns-clause-left
returns-clause-left g c =
    let read = g.R.Object.at c.args.self.now.reader in
    block_done read _ _ _ 0 0 refl refl ∙ ap (blocks_from read g.R.Object.rest 1) c.restart.ensures.start
