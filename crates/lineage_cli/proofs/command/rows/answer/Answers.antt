use Rattle.std.proofs.Common.{refl}
use Rattle.std.proofs.lemmas.Result.{err_from_is_err_and}
use Rattle.lineage_cli.specs.Command.Rows.{RowsAnswer}
use Rattle.lineage_cli.specs.Text.{lines}
use Rattle.lineage_cli.proofs.AnswersLemmas.{prints_text, leaves_printed}
use Rattle.lineage_cli.proofs.RowsLemmas.{refused_prints, refused_leaves}
use Rattle.lineage_cli.proofs.command.rows.answer.Goals as goal

pub returns-in_err-rows-clause-prints : goal.returns-in_err-rows-clause-prints
returns-in_err-rows-clause-prints g c =
    let p = err_from_is_err_and c.from_residual.result c.from_residual.ensures.1 in
    rw (p.1, p.2) (refused_prints c.args.first c.args.sequence c.args.bytes.now c.in_err-rows.field-0.0 (g.W.Sink.seen c.args.out.now).written c.in_err-rows.ensures.refused)

pub returns-in_err-rows-clause-leaves : goal.returns-in_err-rows-clause-leaves
returns-in_err-rows-clause-leaves g c =
    let p = err_from_is_err_and c.from_residual.result c.from_residual.ensures.1 in
    rw (p.1, p.2) (refused_leaves c.args.first c.args.sequence c.args.bytes.now c.in_err-rows.field-0.0 (g.W.Sink.seen c.args.out.now) c.in_err-rows.ensures.refused)

pub returns-clause-prints : goal.returns-clause-prints
returns-clause-prints g c =
    let rows = c.in_ok-rows.rows.left in
    rw c.printed.ensures (prints_text (RowsAnswer c.args.first c.args.sequence c.args.bytes.now) (g.W.Sink.seen c.args.out.now).written (g.W.Sink.seen c.print_rows.new.out).written c.print_rows.result
    (lines rows) (rows, c.in_ok-rows.ensures.rows, refl) c.print_rows.ensures.text)

pub returns-clause-leaves : goal.returns-clause-leaves
returns-clause-leaves g c =
    rw c.printed.ensures (leaves_printed (g.W.Sink.seen c.args.out.now) (g.W.Sink.seen c.print_rows.new.out) c.print_rows.result c.print_rows.ensures.counted)
