use Rattle.std.proofs.Common.{◌≡◌, ◌+◌, arith, ◌∙◌}
use Rattle.std.proofs.lemmas.Result.{err_from_is_err_and}
use Rattle.pieces.proofs.LiteralSteps.{at_end, at_quote, at_backslash, at_raw}
use Rattle.pieces.proofs.literal.take_stop.Goals as goal

pub returns-then-place-bytes-clause-read : goal.returns-then-place-bytes-clause-read
returns-then-place-bytes-clause-read c content = rw c.stops_at.ensures (at_end content c.args.bytes.now c.args.place (omega arith))

pub returns-in_err-take_escaped-clause-read : goal.returns-in_err-take_escaped-clause-read
returns-in_err-take_escaped-clause-read c content =
    let p = err_from_is_err_and c.from_residual.result c.from_residual.ensures.1 in
    rw (p.1, p.2) (at_backslash content c.args.bytes.now c.args.place (omega arith) c.if-byte-eq92.true ∙ c.in_err-take_escaped.ensures.read content)

pub returns-then-byte-eq34-clause-read : goal.returns-then-byte-eq34-clause-read
returns-then-byte-eq34-clause-read c content = at_quote content c.args.bytes.now c.args.place (omega arith) c.if-byte-eq34.true

pub returns-then-byte-eq92-clause-read : goal.returns-then-byte-eq92-clause-read
returns-then-byte-eq92-clause-read c content =
    let two : c.args.place + 1 + 1 ≡ c.args.place + 2 = omega arith in
    at_backslash content c.args.bytes.now c.args.place (omega arith) c.if-byte-eq92.true ∙ (rw two at (c.in_ok-take_escaped.ensures.read content))

pub returns-else-byte-eq34-clause-read : goal.returns-else-byte-eq34-clause-read
returns-else-byte-eq34-clause-read c content =
    rw c.stops_at-else-byte-eq34.ensures (at_raw content c.args.bytes.now c.args.place (omega arith) (c.requires.stops (omega arith)) c.if-byte-eq34.false c.if-byte-eq92.false)
