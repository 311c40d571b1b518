use Rattle.std.proofs.Common.{rules}
use Rattle.lineage_cli.proofs.ending.printed.Goals as goal

pub returns-in-Err-Failed : goal.returns-in-Err-Failed
returns-in-Err-Failed c = search rules
