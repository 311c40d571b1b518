use Rattle.lineage_model.proofs.AppendInTwo.{goes_behind, behind}
use Rattle.lineage_model.proofs.laws.an_append_of_version_2_names_no_row.Goals as goal

pub returns-clause-rows : goal.returns-clause-rows
returns-clause-rows c = (goes_behind c.args.before.now c.args.entry.now c.args.after.now c.requires.step c.requires.append c.requires.version).rows

pub returns-clause-unnamed : goal.returns-clause-unnamed
returns-clause-unnamed c =
    behind c.args.before.now c.args.entry.now c.args.after.now (goes_behind c.args.before.now c.args.entry.now c.args.after.now c.requires.step c.requires.append c.requires.version)
