use Rattle.std.proofs.lemmas.Result.{err_from_is_err_and}
use Rattle.lineage_cli.specs.Command.Audit.{AuditAnswer}
use Rattle.lineage_cli.proofs.AnswersLemmas.{answered, answered_leaves, unanswered, unanswered_leaves}
use Rattle.lineage_cli.proofs.command.audit.serve.Goals as goal

pub returns-in_err-bytes-clause-serves : goal.returns-in_err-bytes-clause-serves
returns-in_err-bytes-clause-serves g c =
    let p = err_from_is_err_and c.from_residual.result c.from_residual.ensures.1 in
    rw (p.1, p.2) (unanswered 16777216 AuditAnswer (g.S.Source.seen c.args.input.now) (g.S.Source.seen c.read_input.new.input) (g.W.Sink.seen c.args.out.now) c.in_err-bytes.field-0.0 c.in_err-bytes.ensures.missed)

pub returns-in_err-bytes-clause-leaves : goal.returns-in_err-bytes-clause-leaves
returns-in_err-bytes-clause-leaves g c =
    let p = err_from_is_err_and c.from_residual.result c.from_residual.ensures.1 in
    rw (p.1, p.2) (unanswered_leaves 16777216 (g.S.Source.seen c.args.input.now) (g.S.Source.seen c.read_input.new.input) (g.W.Sink.seen c.args.out.now) c.in_err-bytes.field-0.0 c.in_err-bytes.ensures.missed c.in_err-bytes.ensures.leaves)

pub returns-clause-serves : goal.returns-clause-serves
returns-clause-serves g c =
    answered 16777216 AuditAnswer c.in_ok-bytes.bytes.items
    (g.S.Source.seen c.args.input.now) (g.S.Source.seen c.read_input.new.input) (g.W.Sink.seen c.args.out.now) (g.W.Sink.seen c.answer.new.out)
    c.answer.result c.in_ok-bytes.ensures.all (rw c.deref.ensures.value at c.answer.ensures.prints)

pub returns-clause-leaves : goal.returns-clause-leaves
returns-clause-leaves g c =
    answered_leaves (AuditAnswer c.in_ok-bytes.bytes.items)
    (g.S.Source.seen c.args.input.now) (g.S.Source.seen c.read_input.new.input) (g.W.Sink.seen c.args.out.now) (g.W.Sink.seen c.answer.new.out)
    c.answer.result (rw c.deref.ensures.value at c.answer.ensures.prints) c.in_ok-bytes.ensures.leaves c.answer.ensures.leaves
