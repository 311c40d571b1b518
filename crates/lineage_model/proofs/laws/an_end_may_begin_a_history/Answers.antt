use Rattle.lineage_model.proofs.EndsMayBegin.{end_may_begin}
use Rattle.lineage_model.proofs.laws.an_end_may_begin_a_history.Goals as goal

pub returns : goal.returns
returns c = end_may_begin c.args.start.now c.args.entries.now c.args.end.now c.requires.history
