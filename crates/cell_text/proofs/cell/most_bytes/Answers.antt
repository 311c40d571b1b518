use Rattle.std.proofs.Common.{rules}
use Rattle.cell_text.proofs.cell.most_bytes.Goals as goal

pub returns-in-Text-clause-exact : goal.returns-in-Text-clause-exact
returns-in-Text-clause-exact c = search rules
