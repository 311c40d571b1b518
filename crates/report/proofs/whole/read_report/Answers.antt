use Rattle.std.proofs.lemmas.Result.{err_from_is_err_and}
use Rattle.words.specs.Laws.{refused_so}
use Rattle.report.specs.Refusal.{is_memory_of_report}
use Rattle.report.specs.Report.{report_of}
use Rattle.report.proofs.WholeLemmas.{whole_read, whole_refused}
use Rattle.report.proofs.whole.read_report.Goals as goal

pub returns-in_err-columns-clause-exact : goal.returns-in_err-columns-clause-exact
returns-in_err-columns-clause-exact c =
    let p = err_from_is_err_and c.from_residual.result c.from_residual.ensures.1 in
    rw (p.1, p.2) (refused_so (is_memory_of_report c.in_err-columns.field-0.0) (whole_refused (report_of c.args.bytes.now) c.in_err-columns.field-0.0) c.in_err-columns.ensures.exact)

pub returns-clause-exact : goal.returns-clause-exact
returns-clause-exact c = whole_read (report_of c.args.bytes.now) (c.in_ok-columns.columns, c.in_ok-columns.history) c.in_ok-columns.ensures.exact
