use Rattle.lineage_model.proofs.Unchanged.{upgrade_changes_none}
use Rattle.lineage_model.proofs.laws.an_upgrade_changes_no_row.Goals as goal

pub returns-clause-rows : goal.returns-clause-rows
returns-clause-rows c = (upgrade_changes_none c.args.before.now c.args.entry.now c.args.after.now c.requires.step c.requires.upgrade).0

pub returns-clause-unnamed : goal.returns-clause-unnamed
returns-clause-unnamed c = (upgrade_changes_none c.args.before.now c.args.entry.now c.args.after.now c.requires.step c.requires.upgrade).1
