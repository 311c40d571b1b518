use Rattle.std.proofs.Common.{arith, sym, ◌∙◌}
use Rattle.pieces.proofs.LiteralSteps.{behind_end, behind_known, behind_unknown}
use Rattle.pieces.proofs.literal.take_escaped.Goals as goal

pub returns-then-place-bytes-clause-read : goal.returns-then-place-bytes-clause-read
returns-then-place-bytes-clause-read c content = rw c.stops_at.ensures (behind_end content c.args.bytes.now c.args.place (omega arith))

pub returns-in-Some-clause-read : goal.returns-in-Some-clause-read
returns-in-Some-clause-read c content =
    behind_known content c.args.bytes.now c.args.place c.in-Some.other (omega arith) (sym c.unescaped.ensures ∙ c.in-Some.is)

pub returns-in-None-clause-read : goal.returns-in-None-clause-read
returns-in-None-clause-read c content =
    rw c.stops_at-in-None.ensures (behind_unknown content c.args.bytes.now c.args.place (omega arith) (sym c.unescaped.ensures ∙ c.in-None.is))
