use Rattle.std.proofs.Common.{rules}
use Rattle.row_reading.proofs.counts.check_told.Goals as goal

pub returns-in_default : goal.returns-in_default
returns-in_default c = search rules
