use Rattle.std.proofs.Common.{rules}
use Rattle.row_reading.proofs.row.column_wanted.Goals as goal

pub returns : goal.returns
returns c = search rules
