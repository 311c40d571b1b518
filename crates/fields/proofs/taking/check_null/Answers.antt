use Rattle.fields.specs.Wanted.{check_nulls}
use Rattle.std.proofs.Common.{rules}
use Rattle.fields.proofs.taking.check_null.Goals as goal

pub returns : goal.returns
unfolding check_nulls
returns c = search rules
