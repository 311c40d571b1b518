use Rattle.std.proofs.Common.{arith}
use Rattle.pieces.proofs.WordLemmas.{word_steps}
use Rattle.pieces.proofs.word.take_word.Goals as goal

pub returns-in_err-at-clause-exact : goal.returns-in_err-at-clause-exact
returns-in_err-at-clause-exact c = grind (arith, word_steps)

pub loop-byte-preserved : goal.loop-byte-preserved
loop-byte-preserved c = grind (arith, word_steps)
