use Rattle.fields.specs.Wanted.{check_missing}
use Rattle.std.proofs.Common.{rules}
use Rattle.fields.proofs.wanted.check_one.Goals as goal

pub returns : goal.returns
unfolding check_missing
returns c = search rules
