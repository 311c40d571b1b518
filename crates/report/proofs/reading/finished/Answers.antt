use Rattle.std.proofs.Common.{rules}
use Rattle.report.proofs.reading.finished.Goals as goal

pub returns-in-Ended-clause-exact : goal.returns-in-Ended-clause-exact
returns-in-Ended-clause-exact g c = search rules
