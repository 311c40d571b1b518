use Rattle.std.proofs.Common.{arith, rules}
use Rattle.history_log.proofs.RequestSteps.{literal_past}
use Rattle.history_log.proofs.request.take_path.Goals as goal

pub overflow_sub-result : goal.overflow_sub-result
overflow_sub-result c =
    let past = literal_past c.args.text.now c.args.place (c.in_ok-path.path, c.in_ok-path.after) c.in_ok-path.ensures.exact in
    omega arith

pub returns-then-has-clause-exact : goal.returns-then-has-clause-exact
returns-then-has-clause-exact c = search rules

pub returns-clause-exact : goal.returns-clause-exact
returns-clause-exact c = search rules

pub returns-clause-fresh : goal.returns-clause-fresh
returns-clause-fresh c = search rules
