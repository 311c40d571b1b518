use Rattle.std.proofs.Common.{map}
use Rattle.std.specs.List.{flat_map}
use Rattle.std.proofs.lemmas.Result.{err_from_is_err_and}
use Rattle.cell_text.specs.Cell.{cell_text}
use Rattle.row_pred.specs.Cells.{spaced_text}
use Rattle.row_types.specs.CellRef.{lent_cell}
use Rattle.lineage_cli.proofs.OutputLemmas.{shows_front, shows_then}
use Rattle.lineage_cli.proofs.printing.put_cells.Goals as goal

pub returns-in_err-put_cell-clause-text : goal.returns-in_err-put_cell-clause-text
returns-in_err-put_cell-clause-text g c =
    let p = err_from_is_err_and c.from_residual.result c.from_residual.ensures.1 in
    rw (p.1, c.in-Some.ensures.cases.0)
    (shows_front _ _ c.args.buffer.now (cell_text (lent_cell c.in-Some.first.now)) (flat_map spaced_text (map lent_cell c.in-Some.others.now)) c.in_err-put_cell.ensures.text)

pub returns-clause-text : goal.returns-clause-text
returns-clause-text g c =
    let before = (g.W.Sink.seen c.args.out.now).written in
    let mid = (g.W.Sink.seen c.put_cell.new.out).written in
    let now = (g.W.Sink.seen c.put_others.new.out).written in
    let first = cell_text (lent_cell c.in-Some.first.now) in
    let others = flat_map spaced_text (map lent_cell c.in-Some.others.now) in
    rw c.in-Some.ensures.cases.0
    (shows_then before mid now c.args.buffer.now c.put_cell.new.buffer c.put_others.new.buffer c.put_others.result first others c.in_ok-put_cell.ensures.text c.put_others.ensures.text)
