use Rattle.std.proofs.Common.{rules}
use Rattle.lineage_cli.proofs.input.read_input.Goals as goal

pub returns-in-Err-Fault-clause-leaves : goal.returns-in-Err-Fault-clause-leaves
returns-in-Err-Fault-clause-leaves g c = search rules
