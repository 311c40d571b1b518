use Rattle.std.proofs.Common.{sym}
use Rattle.std.proofs.lemmas.Result.{err_from_is_err_and}
use Rattle.words.specs.Laws.{refused_for_certain}
use Rattle.row_pred.specs.Refusal.{is_memory, of_piece}
use Rattle.row_pred.proofs.CellsLemmas.{row_refused, row_stopped, row_whole}
use Rattle.row_pred.proofs.cells.read_cells.Goals as goal

pub returns-in_err-cells-clause-exact : goal.returns-in_err-cells-clause-exact
returns-in_err-cells-clause-exact c =
    let p = err_from_is_err_and c.from_residual.result c.from_residual.ensures.1 in
    rw (p.1, p.2) (row_refused c.as_slice.result.now c.args.columns.now c.args.text.now c.in_err-cells.field-0.0 c.as_slice.ensures.all c.in_err-cells.ensures.exact)

pub returns-in_err-take_end-clause-exact : goal.returns-in_err-take_end-clause-exact
returns-in_err-take_end-clause-exact c =
    let p = err_from_is_err_and c.from_residual-in_err-take_end.result c.from_residual-in_err-take_end.ensures.1 in
    rw (p.1, p.2) (refused_for_certain (is_memory (of_piece c.in_err-take_end.field-0.0)) (row_stopped c.as_slice.result.now c.args.columns.now c.args.text.now c.in_ok-cells.cells c.in_ok-cells.after c.in_err-take_end.field-0.0 c.as_slice.ensures.all c.in_ok-cells.ensures.exact
    (sym c.in_err-take_end.ensures.exact)))

pub returns-clause-exact : goal.returns-clause-exact
returns-clause-exact c = row_whole c.as_slice.result.now c.args.columns.now c.args.text.now c.in_ok-cells.cells c.in_ok-cells.after c.as_slice.ensures.all c.in_ok-cells.ensures.exact (sym c.in_ok-take_end.ensures.exact)

pub returns-clause-fits : goal.returns-clause-fits
returns-clause-fits c = rw c.as_slice.ensures.all at c.in_ok-cells.ensures.fits
