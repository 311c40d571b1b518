use Rattle.std.proofs.Common.{rules}
use Rattle.row_pred.proofs.cells.put_cells.Goals as goal

pub returns-in_err-put_each-clause-unchanged : goal.returns-in_err-put_each-clause-unchanged
returns-in_err-put_each-clause-unchanged c = search rules
