use Rattle.std.proofs.Common.{arith}
use Rattle.stored_rows.proofs.FieldLemmas.{find_steps}
use Rattle.stored_rows.proofs.field.find.Goals as goal

pub loop-place-preserved : goal.loop-place-preserved
loop-place-preserved c = grind (arith, find_steps)
