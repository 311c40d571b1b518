use Rattle.lineage_model.proofs.GivenIds.{go_to, given_to, as_many_named, as_many_given}
use Rattle.lineage_model.proofs.laws.rows_get_their_ids_in_order.Goals as goal

pub returns-clause-named : goal.returns-clause-named
returns-clause-named c = (go_to c.args.before.now c.args.entry.now c.args.after.now c.requires.step c.requires.gives).named

pub returns-clause-given : goal.returns-clause-given
returns-clause-given c =
    given_to c.args.before.now c.args.entry.now c.args.after.now (go_to c.args.before.now c.args.entry.now c.args.after.now c.requires.step c.requires.gives)

pub returns-clause-others : goal.returns-clause-others
returns-clause-others c = (go_to c.args.before.now c.args.entry.now c.args.after.now c.requires.step c.requires.gives).others

pub returns-clause-all_named : goal.returns-clause-all_named
returns-clause-all_named c = (go_to c.args.before.now c.args.entry.now c.args.after.now c.requires.step c.requires.gives).all_named

pub returns-clause-as_many_named : goal.returns-clause-as_many_named
returns-clause-as_many_named c = as_many_named c.args.before.now c.args.entry.now c.requires.step.legal c.requires.gives

pub returns-clause-as_many_given : goal.returns-clause-as_many_given
returns-clause-as_many_given c = as_many_given c.args.before.now c.args.entry.now c.requires.step.legal c.requires.gives
