use Rattle.std.proofs.Common.{rules}
use Rattle.lineage_cli.proofs.command.audit.read.Goals as goal

pub returns-in-Err-Line : goal.returns-in-Err-Line
returns-in-Err-Line c = search rules
