use Rattle.std.proofs.Common.{rules}
use Rattle.pieces.proofs.number.take_optional_long.Goals as goal

pub returns-then-is_absent-clause-exact : goal.returns-then-is_absent-clause-exact
returns-then-is_absent-clause-exact c = search rules
