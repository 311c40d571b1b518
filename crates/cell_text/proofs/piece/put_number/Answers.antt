use Rattle.std.proofs.Common.{arith}
use Rattle.cell_text.proofs.DigitLemmas.{fewer_digits}
use Rattle.cell_text.proofs.piece.put_number.Goals as goal

pub put_decimal-requires : goal.put_decimal-requires
put_decimal-requires c =
    let few = fewer_digits c.unsigned_abs-magnitude.result (omega (arith, c.unsigned_abs-magnitude.ensures.bound)) in
    record { fits = omega (arith, few, c.put_piece-start.ensures.place, c.put_piece-start.ensures.len, c.requires.fits) }

pub returns-then-number-lt0-clause-within : goal.returns-then-number-lt0-clause-within
returns-then-number-lt0-clause-within c =
    let few = fewer_digits c.unsigned_abs-magnitude.result (omega (arith, c.unsigned_abs-magnitude.ensures.bound)) in
    omega (arith, few, c.put_piece-start.ensures.place, c.put_decimal.ensures.place)

pub put_decimal-requires-2 : goal.put_decimal-requires-2
put_decimal-requires-2 c =
    let few = fewer_digits c.unsigned_abs-magnitude.result (omega (arith, c.unsigned_abs-magnitude.ensures.bound)) in
    record { fits = omega (arith, few, c.requires.fits) }

pub returns-clause-within : goal.returns-clause-within
returns-clause-within c =
    let few = fewer_digits c.unsigned_abs-magnitude.result (omega (arith, c.unsigned_abs-magnitude.ensures.bound)) in
    omega (arith, few, c.put_decimal-2.ensures.place)
