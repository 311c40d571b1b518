use Rattle.std.proofs.Common.{refl}
use Rattle.lineage_model.specs.Ids.{ids_from}
use Rattle.history_log.proofs.ids.Ids.new.Goals as goal

pub returns : goal.returns
unfolding ids_from
returns c = refl
