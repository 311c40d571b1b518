use Rattle.std.proofs.Common.{ℕ, List, ◌∷◌, [], ◌++◌, rules, subst, sym, SFits}
use Rattle.std.specs.Int.{w64}
use Rattle.std.proofs.lemmas.Int.{to_z-of_z}
use Rattle.std.proofs.lemmas.Result.{err_from_is_err_and}
use Rattle.row_pred.specs.Cells.{cells_text}
use Rattle.lineage_cli.specs.Output.{AppendsFront, Shows}
use Rattle.lineage_cli.proofs.OutputLemmas.{shows_front, shows_stop, shows_then}
use Rattle.lineage_cli.proofs.PrintLemmas.{front_text, line_of}
use Rattle.lineage_cli.proofs.printing.put_piece_by_piece.Goals as goal

pub returns-in_err-put_front-clause-text : goal.returns-in_err-put_front-clause-text
returns-in_err-put_front-clause-text g c =
    let fits : SFits w64 c.last.result = search rules in
    let p = err_from_is_err_and c.from_residual.result c.from_residual.ensures.1 in
    let row = c.args.rows.now.row in
    let waiting = c.args.buffer.now in
    let before = (g.W.Sink.seen c.args.out.now).written in
    let now = (g.W.Sink.seen c.put_front.new.out).written in
    let front = simp to_z-of_z at c.in_err-put_front.ensures.text in
    let line = line_of row c.id.result c.last.result c.id.ensures c.last.ensures in
    rw p.1 (subst (λ (l : List ℕ). AppendsFront before now (waiting ++ l)) (sym line)
    (shows_front before now waiting (front_text c.id.result c.last.result) (cells_text row.cells ++ 10 ∷ []) front))

pub returns-in_err-put_cells-clause-text : goal.returns-in_err-put_cells-clause-text
returns-in_err-put_cells-clause-text g c =
    let fits : SFits w64 c.last.result = search rules in
    let p = err_from_is_err_and c.from_residual-in_err-put_cells.result c.from_residual-in_err-put_cells.ensures.1 in
    let row = c.args.rows.now.row in
    let waiting = c.args.buffer.now in
    let waits = c.put_front.new.buffer in
    let before = (g.W.Sink.seen c.args.out.now).written in
    let mid = (g.W.Sink.seen c.put_front.new.out).written in
    let now = (g.W.Sink.seen c.put_cells.new.out).written in
    let front = simp to_z-of_z at c.in_ok-put_front.ensures.text in
    let cells = rw c.cells.ensures at c.in_err-put_cells.ensures.text in
    let line = line_of row c.id.result c.last.result c.id.ensures c.last.ensures in
    let rest = cells_text row.cells ++ 10 ∷ [] in
    rw p.1 (subst (λ (l : List ℕ). AppendsFront before now (waiting ++ l)) (sym line)
    (shows_stop before mid now waiting waits (front_text c.id.result c.last.result) rest front (shows_front mid now waits (cells_text row.cells) (10 ∷ []) cells)))

pub returns-clause-text : goal.returns-clause-text
returns-clause-text g c =
    let fits : SFits w64 c.last.result = search rules in
    let row = c.args.rows.now.row in
    let before = (g.W.Sink.seen c.args.out.now).written in
    let mid = (g.W.Sink.seen c.put_front.new.out).written in
    let next = (g.W.Sink.seen c.put_cells.new.out).written in
    let now = (g.W.Sink.seen c.put.new.out).written in
    let front = simp to_z-of_z at c.in_ok-put_front.ensures.text in
    let cells = rw c.cells.ensures at c.in_ok-put_cells.ensures.text in
    let line = line_of row c.id.result c.last.result c.id.ensures c.last.ensures in
    let rest = cells_text row.cells ++ 10 ∷ [] in
    subst (λ (l : List ℕ). Shows before c.args.buffer.now now c.put.new.buffer c.put.result l) (sym line)
    (shows_then before mid now c.args.buffer.now c.put_front.new.buffer c.put.new.buffer c.put.result (front_text c.id.result c.last.result) rest front
    (shows_then mid next now c.put_front.new.buffer c.put_cells.new.buffer c.put.new.buffer c.put.result (cells_text row.cells) (10 ∷ []) cells c.put.ensures.text))
