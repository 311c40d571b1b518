use Rattle.std.proofs.Common.{◌∷◌, []}
use Rattle.std.proofs.lemmas.Result.{err_from_is_err_and}
use Rattle.hex.specs.Hex.{encode_lower}
use Rattle.lineage_cli.proofs.OutputLemmas.{shows_front, shows_then}
use Rattle.lineage_cli.proofs.parts.put_hex.Goals as goal

pub returns-in_err-put-clause-text : goal.returns-in_err-put-clause-text
returns-in_err-put-clause-text g c =
    let p = err_from_is_err_and c.from_residual.result c.from_residual.ensures.1 in
    rw p.1 (shows_front _ _ c.args.buffer.now (120 ∷ []) (encode_lower c.args.bytes.now) c.in_err-put.ensures.text)

pub returns-clause-text : goal.returns-clause-text
returns-clause-text g c =
    let before = (g.W.Sink.seen c.args.out.now).written in
    let mid = (g.W.Sink.seen c.put.new.out).written in
    let now = (g.W.Sink.seen c.put_parts.new.out).written in
    shows_then before mid now c.args.buffer.now c.put.new.buffer c.put_parts.new.buffer c.put_parts.result (120 ∷ []) (encode_lower c.args.bytes.now) c.in_ok-put.ensures.text c.put_parts.ensures.text
