use Rattle.std.proofs.lemmas.Result.{err_from_is_err_and}
use Rattle.row_pred.proofs.CellLemmas.{cell_read, cell_refused}
use Rattle.row_pred.proofs.cell.take_cell.Goals as goal

pub returns-in_err-read-clause-exact : goal.returns-in_err-read-clause-exact
returns-in_err-read-clause-exact c =
    let p = err_from_is_err_and c.from_residual.result c.from_residual.ensures.1 in
    rw (p.1, p.2) (cell_refused c.args.column.now c.args.text.now c.args.place c.in_err-read.field-0.0 c.in_err-read.ensures.exact)

pub returns-clause-exact : goal.returns-clause-exact
returns-clause-exact c = cell_read c.args.column.now c.args.text.now c.args.place c.in_ok-read.read c.fitted.result c.in_ok-read.ensures.exact c.fitted.ensures.exact
