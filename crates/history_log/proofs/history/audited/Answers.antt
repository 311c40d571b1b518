use Rattle.std.proofs.Common.{rules}
use Rattle.lineage_model.specs.History.{audited}
use Rattle.history_log.proofs.history.audited.Goals as goal

pub returns : goal.returns
unfolding audited
returns c = search rules
