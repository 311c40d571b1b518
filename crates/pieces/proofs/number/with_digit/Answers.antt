use Rattle.std.proofs.Common.{rules}
use Rattle.pieces.proofs.number.with_digit.Goals as goal

pub returns-then-digit-most : goal.returns-then-digit-most
returns-then-digit-most c = search rules
