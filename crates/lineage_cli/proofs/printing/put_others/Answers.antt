use Rattle.std.proofs.Common.{◌+◌, ◌∙◌, drop, map}
use Rattle.std.specs.List.{flat_map}
use Rattle.std.proofs.lemmas.Result.{err_from_is_err_and}
use Rattle.row_pred.specs.Cells.{spaced_text}
use Rattle.row_types.specs.CellRef.{lent_cell}
use Rattle.lineage_cli.proofs.PrintLemmas.{begun_more, begun_stops, cells_next}
use Rattle.lineage_cli.proofs.printing.put_others.Goals as goal

pub returns-in_err-put_cell-clause-text : goal.returns-in_err-put_cell-clause-text
returns-in_err-put_cell-clause-text g c =
    let p = err_from_is_err_and c.from_residual.result c.from_residual.ensures.1 in
    let rest = flat_map spaced_text (map lent_cell (drop c.loop-cell.cell-index c.args.cells.now)) in
    let others = flat_map spaced_text (map lent_cell (drop (c.loop-cell.cell-index + 1) c.args.cells.now)) in
    let text = flat_map spaced_text (map lent_cell c.args.cells.now) in
    rw p.1 (begun_stops _ _ _ _ _ rest _ others text (cells_next c.args.cells.now c.loop-cell.cell-index _ c.loop-cell-test.true) c.loop-cell.invariant.begun c.in_err-put_cell.ensures.text)

pub loop-cell-preserved : goal.loop-cell-preserved
loop-cell-preserved g c =
    let rest = flat_map spaced_text (map lent_cell (drop c.loop-cell.cell-index c.args.cells.now)) in
    let others = flat_map spaced_text (map lent_cell (drop (c.loop-cell.cell-index + 1) c.args.cells.now)) in
    let text = flat_map spaced_text (map lent_cell c.args.cells.now) in
    record {
      begun = begun_more _ _ _ _ _ _ rest _ others text (cells_next c.args.cells.now c.loop-cell.cell-index _ c.loop-cell-test.true) c.loop-cell.invariant.begun c.in_ok-put_cell.ensures.text;
      counted = c.in_ok-put_cell.ensures.counted ∙ c.loop-cell.invariant.counted;
    }
