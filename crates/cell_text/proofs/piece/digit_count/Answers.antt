use Rattle.std.proofs.Common.{◌+◌, ◌^◌, ◌<◌, arith}
use Rattle.itoa.proofs.Decimal.{length_four}
use Rattle.cell_text.proofs.DigitLemmas.{few_digits}
use Rattle.cell_text.proofs.piece.digit_count.Goals as goal

pub overflow_add-count : goal.overflow_add-count
overflow_add-count c =
    let few = few_digits c.args.number (omega (arith, c.ranges.number.fits)) in
    let small : c.loop-left.count + 4 < 2 ^ 64 = omega (arith, few, c.loop-left.invariant.so_far) in
    search (arith, small)

pub loop-left-preserved : goal.loop-left-preserved
loop-left-preserved c =
    let four = length_four c.loop-left.left c.loop-left-test.true (omega (arith, c.loop-left.invariant.less, c.ranges.number.fits)) in
    record { less = omega (arith, c.loop-left.invariant.less); so_far = omega (arith, four, c.loop-left.invariant.so_far) }

pub overflow_add-result : goal.overflow_add-result
overflow_add-result c =
    let few = few_digits c.args.number (omega (arith, c.ranges.number.fits)) in
    let small : c.loop-left.count + c.short_count.result < 2 ^ 64 = omega (arith, few, c.loop-left.invariant.so_far, c.short_count.ensures) in
    search (arith, small)
