use Rattle.std.proofs.Common.{rules}
use Rattle.stored_rows.proofs.lineage.row_id.Goals as goal

pub returns-in-Some-default : goal.returns-in-Some-default
returns-in-Some-default c = search rules
