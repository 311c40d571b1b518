use Rattle.lineage_cli.proofs.FaultLemmas.{other_status}
use Rattle.lineage_cli.proofs.laws.another_status_has_no_fault.Goals as goal

pub returns : goal.returns
returns c = other_status
