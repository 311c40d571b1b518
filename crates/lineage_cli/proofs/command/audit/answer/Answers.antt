use Rattle.std.specs.String.{string_bytes}
use Rattle.std.proofs.lemmas.Result.{err_from_is_err_and}
use Rattle.lineage_cli.specs.Command.Audit.{AuditAnswer}
use Rattle.lineage_cli.proofs.AnswersLemmas.{prints_text, leaves_printed}
use Rattle.lineage_cli.proofs.AuditLemmas.{Finds, legal_answer, ending_answer, ending_prints, ending_leaves}
use Rattle.lineage_cli.proofs.command.audit.answer.Goals as goal

pub returns-in_err-line-clause-prints : goal.returns-in_err-line-clause-prints
returns-in_err-line-clause-prints g c =
    let p = err_from_is_err_and c.from_residual.result c.from_residual.ensures.1 in
    let finds : Finds = ((λ s e d is. (c.an_audit_finds_histories.ensures.legal s e d).0 is), (λ s e f is. (c.an_audit_finds_histories.ensures.illegal s e f).0 is)) in
    let ending = c.in_err-line.field-0.0 in
    rw (p.1, p.2) (ending_prints c.args.bytes.now ending (g.W.Sink.seen c.args.out.now).written (ending_answer finds c.args.bytes.now ending c.in_err-line.ensures))

pub returns-in_err-line-clause-leaves : goal.returns-in_err-line-clause-leaves
returns-in_err-line-clause-leaves g c =
    let p = err_from_is_err_and c.from_residual.result c.from_residual.ensures.1 in
    let finds : Finds = ((λ s e d is. (c.an_audit_finds_histories.ensures.legal s e d).0 is), (λ s e f is. (c.an_audit_finds_histories.ensures.illegal s e f).0 is)) in
    let ending = c.in_err-line.field-0.0 in
    rw (p.1, p.2) (ending_leaves c.args.bytes.now ending (g.W.Sink.seen c.args.out.now) (ending_answer finds c.args.bytes.now ending c.in_err-line.ensures))

pub returns-clause-prints : goal.returns-clause-prints
returns-clause-prints g c =
    let finds : Finds = ((λ s e d is. (c.an_audit_finds_histories.ensures.legal s e d).0 is), (λ s e f is. (c.an_audit_finds_histories.ensures.illegal s e f).0 is)) in
    let line = string_bytes c.in_ok-line.line in
    let put = rw c.as_bytes.ensures.value at c.write_all.ensures.text in
    rw c.printed.ensures (prints_text (AuditAnswer c.args.bytes.now) (g.W.Sink.seen c.args.out.now).written (g.W.Sink.seen c.write_all.new.out).written c.write_all.result
    line (legal_answer finds c.args.bytes.now line c.in_ok-line.ensures) put)

pub returns-clause-leaves : goal.returns-clause-leaves
returns-clause-leaves g c =
    rw c.printed.ensures (leaves_printed (g.W.Sink.seen c.args.out.now) (g.W.Sink.seen c.write_all.new.out) c.write_all.result c.write_all.ensures.counted)
