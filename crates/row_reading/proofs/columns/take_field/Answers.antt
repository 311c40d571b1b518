use Rattle.std.proofs.Common.{rules}
use Rattle.row_reading.proofs.columns.take_field.Goals as goal

pub returns-in_err-column_of : goal.returns-in_err-column_of
returns-in_err-column_of c = search rules

pub returns : goal.returns
returns c = search rules
