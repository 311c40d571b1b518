use Rattle.std.proofs.Common.{rules}
use Rattle.report.proofs.stage.add_entry.Goals as goal

pub returns-clause-exact : goal.returns-clause-exact
returns-clause-exact g c = search rules
