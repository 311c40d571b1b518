use Rattle.std.proofs.Common.{rules}
use Rattle.fields.proofs.passing.with_null.Goals as goal

pub returns-then-needed-first : goal.returns-then-needed-first
returns-then-needed-first c = search rules
