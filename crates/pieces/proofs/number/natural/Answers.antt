use Rattle.std.proofs.Common.{rules}
use Rattle.pieces.proofs.number.natural.Goals as goal

pub returns : goal.returns
returns c = search rules
