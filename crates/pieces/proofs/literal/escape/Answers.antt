use Rattle.std.proofs.Common.{rules}
use Rattle.pieces.proofs.literal.escape.Goals as goal

pub returns-in-9-clause-value : goal.returns-in-9-clause-value
returns-in-9-clause-value c = search rules
