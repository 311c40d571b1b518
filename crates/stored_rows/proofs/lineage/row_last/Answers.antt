use Rattle.std.proofs.Common.{rules}
use Rattle.stored_rows.proofs.lineage.row_last.Goals as goal

pub returns-in-None : goal.returns-in-None
returns-in-None c = search rules
