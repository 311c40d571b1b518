use Rattle.std.proofs.Common.{Some, None, Ok, rules}
use Rattle.pieces.proofs.NumberLemmas.{any_number_within}
use Rattle.pieces.proofs.number.take_any_number.Goals as goal

pub returns-in-Ok-clause-within : goal.returns-in-Ok-clause-within
returns-in-Ok-clause-within c = any_number_within c.args.text.now c.args.place (Ok (Some c.in-Ok.number, c.in-Ok.after)) (search rules)

pub returns-in-Err-clause-within : goal.returns-in-Err-clause-within
returns-in-Err-clause-within c = any_number_within c.args.text.now c.args.place (Ok (None, c.in-Err.passed.after)) (search rules)
