use Rattle.std.proofs.Common.{Ok, rules}
use Rattle.pieces.proofs.NumberLemmas.{long_within}
use Rattle.pieces.proofs.number.take_long.Goals as goal

pub returns-in-Ok-clause-within : goal.returns-in-Ok-clause-within
returns-in-Ok-clause-within c = long_within c.args.text.now c.args.place (Ok c.in-Ok.read) (search rules)
