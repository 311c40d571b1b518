use Rattle.std.proofs.Common.{rules}
use Rattle.row_pred.proofs.cell.fitted.Goals as goal

pub returns-in-Some-Null-clause-exact : goal.returns-in-Some-Null-clause-exact
returns-in-Some-Null-clause-exact c = search rules

pub returns-in_default-clause-exact : goal.returns-in_default-clause-exact
returns-in_default-clause-exact c = search rules
