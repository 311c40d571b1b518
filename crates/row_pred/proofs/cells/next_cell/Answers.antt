use Rattle.std.proofs.Common.{rules}
use Rattle.row_pred.proofs.cells.next_cell.Goals as goal

pub returns-clause-exact : goal.returns-clause-exact
returns-clause-exact c = search rules
