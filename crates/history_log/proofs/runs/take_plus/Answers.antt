use Rattle.std.proofs.Common.{rules}
use Rattle.history_log.proofs.runs.take_plus.Goals as goal

pub returns-clause-exact : goal.returns-clause-exact
returns-clause-exact c = search rules

pub returns-clause-apart : goal.returns-clause-apart
returns-clause-apart c = search rules
