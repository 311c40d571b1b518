use Rattle.std.proofs.Common.{ℕ, List, ◌++◌, ap, ◌∙◌, append_assoc}
use Rattle.std.proofs.lemmas.Result.{err_from_is_err_and}
use Rattle.cell_text.specs.Cell.{cell_text}
use Rattle.row_types.specs.CellRef.{lent_cell}
use Rattle.lineage_cli.proofs.OutputLemmas.{front_more, waits_there}
use Rattle.lineage_cli.proofs.printing.put_cell.Goals as goal

pub returns-in_err-make_room-clause-text : goal.returns-in_err-make_room-clause-text
returns-in_err-make_room-clause-text g c =
    let p = err_from_is_err_and c.from_residual.result c.from_residual.ensures.1 in
    rw p.1 (front_more _ _ c.args.buffer.now (c.args.before.now ++ cell_text (lent_cell c.args.cell)) c.in_err-make_room.ensures.text)

pub returns-clause-text : goal.returns-clause-text
returns-clause-text g c =
    let before = c.args.before.now in
    let text = cell_text (lent_cell c.args.cell) in
    let waits = c.make_room.new.buffer in
    let is = c.push_cell.ensures.put ∙ (ap (λ (l : List ℕ). l ++ text) c.push.ensures.put ∙ append_assoc waits before text) in
    waits_there _ _ c.args.buffer.now waits _ (before ++ text) c.in_ok-make_room.ensures.text is
