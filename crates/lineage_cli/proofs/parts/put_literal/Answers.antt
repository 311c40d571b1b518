use Rattle.std.proofs.Common.{◌∷◌, [], ◌++◌}
use Rattle.std.specs.List.{flat_map}
use Rattle.std.proofs.lemmas.Result.{err_from_is_err_and}
use Rattle.pieces.specs.Literal.{escape}
use Rattle.lineage_cli.proofs.OutputLemmas.{shows_front, shows_stop, shows_then}
use Rattle.lineage_cli.proofs.parts.put_literal.Goals as goal

pub returns-in_err-put-clause-text : goal.returns-in_err-put-clause-text
returns-in_err-put-clause-text g c =
    let p = err_from_is_err_and c.from_residual.result c.from_residual.ensures.1 in
    rw p.1 (shows_front _ _ c.args.buffer.now (34 ∷ []) (flat_map escape c.args.text.now ++ 34 ∷ []) c.in_err-put.ensures.text)

pub returns-in_err-put_parts-clause-text : goal.returns-in_err-put_parts-clause-text
returns-in_err-put_parts-clause-text g c =
    let p = err_from_is_err_and c.from_residual-in_err-put_parts.result c.from_residual-in_err-put_parts.ensures.1 in
    let text = flat_map escape c.args.text.now in
    rw p.1 (shows_stop _ _ _ c.args.buffer.now c.put.new.buffer (34 ∷ []) (text ++ 34 ∷ []) c.in_ok-put.ensures.text (shows_front _ _ c.put.new.buffer text (34 ∷ []) c.in_err-put_parts.ensures.text))

pub returns-clause-text : goal.returns-clause-text
returns-clause-text g c =
    let before = (g.W.Sink.seen c.args.out.now).written in
    let first = (g.W.Sink.seen c.put.new.out).written in
    let second = (g.W.Sink.seen c.put_parts.new.out).written in
    let now = (g.W.Sink.seen c.put-2.new.out).written in
    let text = flat_map escape c.args.text.now in
    shows_then before first now c.args.buffer.now c.put.new.buffer c.put-2.new.buffer c.put-2.result (34 ∷ []) (text ++ 34 ∷ []) c.in_ok-put.ensures.text
    (shows_then first second now c.put.new.buffer c.put_parts.new.buffer c.put-2.new.buffer c.put-2.result text (34 ∷ []) c.in_ok-put_parts.ensures.text c.put-2.ensures.text)
