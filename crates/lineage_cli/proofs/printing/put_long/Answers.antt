use Rattle.std.proofs.lemmas.Result.{err_from_is_err_and}
use Rattle.pieces.specs.HexLiteral.{hex_text}
use Rattle.pieces.specs.Literal.{literal_text}
use Rattle.cell_text.specs.Cell.{cell_text}
use Rattle.row_types.specs.CellRef.{lent_cell}
use Rattle.lineage_cli.proofs.OutputLemmas.{shows_front, shows_then}
use Rattle.lineage_cli.proofs.printing.put_long.Goals as goal

pub returns-in_err-put-clause-text : goal.returns-in_err-put-clause-text
returns-in_err-put-clause-text g c =
    let p = err_from_is_err_and c.from_residual.result c.from_residual.ensures.1 in
    rw p.1 (shows_front _ _ c.args.buffer.now c.args.before.now (cell_text (lent_cell c.args.cell)) c.in_err-put.ensures.text)

pub returns-in-Text-clause-text : goal.returns-in-Text-clause-text
returns-in-Text-clause-text g c =
    let before = (g.W.Sink.seen c.args.out.now).written in
    let mid = (g.W.Sink.seen c.put.new.out).written in
    let now = (g.W.Sink.seen c.put_literal.new.out).written in
    let text = rw c.as_bytes.ensures.value at c.put_literal.ensures.text in
    rw c.in-Text.is (shows_then before mid now c.args.buffer.now c.put.new.buffer c.put_literal.new.buffer c.put_literal.result c.args.before.now (literal_text c.in-Text.text.now) c.in_ok-put.ensures.text text)

pub returns-in-Bytes-clause-text : goal.returns-in-Bytes-clause-text
returns-in-Bytes-clause-text g c =
    let before = (g.W.Sink.seen c.args.out.now).written in
    let mid = (g.W.Sink.seen c.put.new.out).written in
    let now = (g.W.Sink.seen c.put_hex.new.out).written in
    let text = c.put_hex.ensures.text in
    rw c.in-Bytes.is (shows_then before mid now c.args.buffer.now c.put.new.buffer c.put_hex.new.buffer c.put_hex.result c.args.before.now (hex_text c.in-Bytes.bytes.now) c.in_ok-put.ensures.text text)
