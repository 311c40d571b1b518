use Rattle.std.proofs.Common.{rules}
use Rattle.history_log.specs.EntryParts.{ids_at}
use Rattle.history_log.proofs.entry.take_ids.Goals as goal

pub returns-clause-exact : goal.returns-clause-exact
unfolding ids_at
returns-clause-exact c = search rules
