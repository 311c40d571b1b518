use Rattle.std.proofs.lemmas.Result.{err_from_is_err_and}
use Rattle.report.proofs.SchemaLemmas.{kind_read, kind_refused}
use Rattle.report.proofs.schema_line.kind_word.Goals as goal

pub returns-in_err-index-clause-exact : goal.returns-in_err-index-clause-exact
returns-in_err-index-clause-exact c =
    let p = err_from_is_err_and c.from_residual.result c.from_residual.ensures.1 in
    rw (p.1, p.2) (kind_refused c.args.line.now c.args.place c.in_err-index.field-0.0 c.in_err-index.ensures.exact)

pub returns-clause-exact : goal.returns-clause-exact
returns-clause-exact c = kind_read c.args.line.now c.args.place c.in_ok-index.index c.in_ok-index.after c.kind_of_word.result c.in_ok-index.ensures.exact c.kind_of_word.ensures
