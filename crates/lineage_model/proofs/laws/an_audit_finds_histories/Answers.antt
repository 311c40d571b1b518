use Rattle.lineage_model.proofs.Audited.{finds_histories}
use Rattle.lineage_model.proofs.FirstFaults.{finds_faults}
use Rattle.lineage_model.proofs.laws.an_audit_finds_histories.Goals as goal

pub returns-clause-legal : goal.returns-clause-legal
returns-clause-legal c = finds_histories

pub returns-clause-illegal : goal.returns-clause-illegal
returns-clause-illegal c = finds_faults
