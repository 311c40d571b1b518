use Rattle.std.proofs.Common.{rules}
use Rattle.report.proofs.stage.entries_line.Goals as goal

pub returns-else-stands-clause-exact : goal.returns-else-stands-clause-exact
returns-else-stands-clause-exact g c = search rules
