use Rattle.std.proofs.Common.{rules}
use Rattle.lineage_cli.proofs.ending.tell.Goals as goal

pub returns : goal.returns
returns g c = search rules
