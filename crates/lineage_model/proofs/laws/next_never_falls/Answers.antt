use Rattle.lineage_model.proofs.NextId.{next_stays}
use Rattle.lineage_model.proofs.laws.next_never_falls.Goals as goal

pub returns : goal.returns
returns c =
    next_stays c.args.start.now c.args.earlier.now c.args.middle.now c.args.later.now c.args.end.now c.requires.history c.requires.legal c.requires.state c.requires.version
