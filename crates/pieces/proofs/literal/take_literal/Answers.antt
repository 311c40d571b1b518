use Rattle.std.proofs.Common.{arith, sym}
use Rattle.pieces.proofs.LiteralSteps.{boundary_behind}
use Rattle.pieces.proofs.literal.take_literal.Goals as goal

pub take_rest-requires-clause-boundary : goal.take_rest-requires-clause-boundary
take_rest-requires-clause-boundary c = boundary_behind 34 c.args.text.now c.args.place c.in_ok-start.start c.utf8.text (omega arith) (sym c.in_ok-start.ensures.exact)
