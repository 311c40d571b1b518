use Rattle.lineage_model.proofs.Unchanged.{compaction_changes_none}
use Rattle.lineage_model.proofs.laws.a_compaction_changes_no_row.Goals as goal

pub returns-clause-rows : goal.returns-clause-rows
returns-clause-rows c = (compaction_changes_none c.args.before.now c.args.entry.now c.args.after.now c.requires.step c.requires.compaction).rows

pub returns-clause-unnamed : goal.returns-clause-unnamed
returns-clause-unnamed c = (compaction_changes_none c.args.before.now c.args.entry.now c.args.after.now c.requires.step c.requires.compaction).unnamed

pub returns-clause-unnamed_after : goal.returns-clause-unnamed_after
returns-clause-unnamed_after c = (compaction_changes_none c.args.before.now c.args.entry.now c.args.after.now c.requires.step c.requires.compaction).unnamed_after
