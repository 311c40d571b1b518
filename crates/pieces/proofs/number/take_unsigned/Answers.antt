use Rattle.std.proofs.Common.{rules}
use Rattle.pieces.proofs.NumberLemmas.{unsigned_within}
use Rattle.pieces.proofs.number.take_unsigned.Goals as goal

pub returns-clause-within : goal.returns-clause-within
returns-clause-within c = unsigned_within c.args.text.now c.args.place c.no_more.result (search rules)
