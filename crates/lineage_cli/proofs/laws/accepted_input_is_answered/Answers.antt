use Rattle.lineage_cli.proofs.CompleteLemmas.{rows_answer, audit_ends}
use Rattle.lineage_cli.proofs.laws.accepted_input_is_answered.Goals as goal

pub returns-clause-rows : goal.returns-clause-rows
returns-clause-rows c = rows_answer

pub returns-clause-audit : goal.returns-clause-audit
returns-clause-audit c = audit_ends
