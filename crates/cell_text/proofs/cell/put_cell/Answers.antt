use Rattle.std.proofs.Common.{rules}
use Rattle.cell_text.proofs.cell.put_cell.Goals as goal

pub returns-in-Flag-true-clause-put : goal.returns-in-Flag-true-clause-put
returns-in-Flag-true-clause-put c = search rules
