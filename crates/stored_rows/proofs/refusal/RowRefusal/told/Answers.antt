use Rattle.std.proofs.Common.{rules}
use Rattle.stored_rows.proofs.refusal.RowRefusal.told.Goals as goal

pub returns-in-RecordCount : goal.returns-in-RecordCount
returns-in-RecordCount c = search rules
