use Rattle.std.proofs.Common.{rules}
use Rattle.datum_reading.specs.Reading.{choice_at}
use Rattle.datum_reading.proofs.primitive.take_choice.Goals as goal

pub returns-clause-exact : goal.returns-clause-exact
unfolding choice_at
returns-clause-exact c = search rules
