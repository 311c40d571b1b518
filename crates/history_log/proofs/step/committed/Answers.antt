use Rattle.std.proofs.Common.{rules}
use Rattle.history_log.proofs.step.committed.Goals as goal

pub returns : goal.returns
returns c = search rules
