use Rattle.lineage_model.proofs.Appends.{append_keeps}
use Rattle.lineage_model.proofs.Step.{right_at_end}
use Rattle.lineage_model.proofs.laws.an_append_keeps_each_row.Goals as goal

pub returns : goal.returns
returns c =
    append_keeps c.args.before.now c.args.entry.now c.args.after.now (right_at_end c.args.start.now c.args.entries.now c.args.before.now c.requires.history) c.requires.step c.requires.append
