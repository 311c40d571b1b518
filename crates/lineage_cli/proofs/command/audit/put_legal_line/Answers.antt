use Rattle.std.proofs.Common.{arith}
use Rattle.std.proofs.lemmas.Grind.{common_steps}
use Rattle.lineage_cli.proofs.command.audit.put_legal_line.Goals as goal

pub returns : goal.returns
returns c = grind (arith, common_steps)
