use Rattle.pieces.proofs.LiteralRuns.{IsReadFrom}
use Rattle.pieces.proofs.literal.plain_end.Given as goal

abbrev pub invariant-loop-at : goal.invariant-loop-at
invariant-loop-at l = IsReadFrom l.bytes l.start l.at
