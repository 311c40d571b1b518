use Rattle.std.proofs.Common.{ℕ, List, arith, sym}
use Rattle.std.proofs.lemmas.Result.{err_from_is_err_and}
use Rattle.words.specs.Laws.{refused_so, refused_for_certain}
use Rattle.row_types.specs.declared.cell.Cell.{Cell}
use Rattle.row_types.specs.Fits.{IsRow}
use Rattle.words.specs.Holds.{of_read}
use Rattle.row_pred.specs.Cells.{cells_at}
use Rattle.row_pred.specs.Refusal.{is_memory}
use Rattle.row_pred.proofs.CellsLemmas.{cells_on, cells_stopped, cells_refused, cells_end}
use Rattle.row_pred.specs.FitLaws.{cells_fit}
use Rattle.row_pred.proofs.cells.take_cells.Goals as goal

pub returns-in_err-start-clause-exact : goal.returns-in_err-start-clause-exact
returns-in_err-start-clause-exact c =
    let p = err_from_is_err_and c.from_residual-in_err-start.result c.from_residual-in_err-start.ensures.1 in
    rw (p.1, p.2) (refused_for_certain (is_memory c.in_err-start.field-0.0) (cells_stopped c.loop-column.cells.items c.args.columns.now c.column-item.result c.args.text.now c.loop-column.column-index c.loop-column.at c.in_err-start.field-0.0 _ c.loop-column-test.true c.column-item.is
    (sym c.in_err-start.ensures.exact) c.loop-column.invariant.so_far))

pub returns-in_err-cell-clause-exact : goal.returns-in_err-cell-clause-exact
returns-in_err-cell-clause-exact c =
    let p = err_from_is_err_and c.from_residual-in_err-cell.result c.from_residual-in_err-cell.ensures.1 in
    rw (p.1, p.2) (refused_so (is_memory c.in_err-cell.field-0.0) (λ h. cells_refused c.loop-column.cells.items c.args.columns.now c.column-item.result c.args.text.now c.loop-column.column-index c.loop-column.at c.in_ok-start.start c.in_err-cell.field-0.0 _ c.loop-column-test.true c.column-item.is
    (sym c.in_ok-start.ensures.exact) h c.loop-column.invariant.so_far) c.in_err-cell.ensures.exact)

pub loop-column-preserved : goal.loop-column-preserved
loop-column-preserved c = record {
  start = omega (arith, c.loop-column.invariant.start, c.in_ok-start.ensures.within, c.in_ok-cell.ensures.within);
  within = omega (arith, c.in_ok-cell.ensures.within);
  so_far = rw c.in_ok-push.ensures.items (cells_on c.loop-column.cells.items c.args.columns.now c.column-item.result c.args.text.now c.loop-column.column-index c.loop-column.at c.in_ok-start.start c.in_ok-cell.after c.in_ok-cell.cell _ c.loop-column-test.true c.column-item.is
      (sym c.in_ok-start.ensures.exact) c.in_ok-cell.ensures.exact c.loop-column.invariant.so_far);
}

pub returns-clause-exact : goal.returns-clause-exact
returns-clause-exact c = rw c.from_vec.ensures (cells_end c.loop-column.cells.items c.args.columns.now c.args.text.now c.loop-column.column-index c.loop-column.at _ c.loop-column-test.false c.loop-column.invariant.so_far)

pub returns-clause-fits : goal.returns-clause-fits
returns-clause-fits c =
    rw c.from_vec.ensures
    (of_read (λ (read : List Cell × ℕ). IsRow c.args.columns.now read.0) (cells_at c.args.columns.now c.args.text.now c.args.place) (c.loop-column.cells.items, c.loop-column.at)
    (cells_end c.loop-column.cells.items c.args.columns.now c.args.text.now c.loop-column.column-index c.loop-column.at _ c.loop-column-test.false c.loop-column.invariant.so_far)
    (cells_fit c.args.columns.now c.args.text.now c.args.place))
