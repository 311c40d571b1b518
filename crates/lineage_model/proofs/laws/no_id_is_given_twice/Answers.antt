use Rattle.lineage_model.proofs.Given.{given_in}
use Rattle.lineage_model.proofs.laws.no_id_is_given_twice.Goals as goal

pub returns-clause-distinct : goal.returns-clause-distinct
returns-clause-distinct c = (given_in c.args.start.now c.args.entries.now c.args.end.now c.iter-rows.ensures.rising c.requires.history).distinct

pub returns-clause-below : goal.returns-clause-below
returns-clause-below c = (given_in c.args.start.now c.args.entries.now c.args.end.now c.iter-rows.ensures.rising c.requires.history).below
