use Rattle.std.proofs.Common.{◌≡◌, ◌+◌, arith, sym, ◌∙◌}
use Rattle.std.proofs.lemmas.Result.{err_from_is_err_and}
use Rattle.pieces.proofs.HexSteps.{first_none, first_some, second_none, second_some}
use Rattle.pieces.proofs.hex_literal.take_pairs.Goals as goal

pub returns-in_default-digit_at-clause-exact : goal.returns-in_default-digit_at-clause-exact
returns-in_default-digit_at-clause-exact c =
    let text = c.args.text.now in
    let at = c.loop-high.at in
    let high = first_some c.loop-high.read.items text at c.in-Some.high c.in-Some.ensures.small.0 c.in-Some.ensures.value in
    rw c.stops_at.ensures (sym c.loop-high.invariant.read ∙ (high ∙ second_none c.loop-high.read.items text (at + 1) c.in-Some.high c.in_default-digit_at.ensures.value))

pub returns-in_err-put_byte-clause-exact : goal.returns-in_err-put_byte-clause-exact
returns-in_err-put_byte-clause-exact c =
    let p = err_from_is_err_and c.from_residual.result c.from_residual.ensures.1 in
    rw (p.1, p.2) tt

pub loop-high-preserved : goal.loop-high-preserved
loop-high-preserved c =
    let text = c.args.text.now in
    let at = c.loop-high.at in
    let bytes = c.loop-high.read.items in
    let high = first_some bytes text at c.in-Some.high c.in-Some.ensures.small.0 c.in-Some.ensures.value in
    let low = second_some bytes text (at + 1) c.in-Some.high c.in-Some-digit_at.low c.in-Some-digit_at.ensures.small.0 c.in-Some-digit_at.ensures.value in
    let two : at + 1 + 1 ≡ at + 2 = omega arith in
    record {
      before = omega (arith, c.loop-high.invariant.before);
      within = omega (arith, c.in-Some-digit_at.ensures.small.0);
      read = rw c.in_ok-put_byte.ensures (sym (high ∙ (rw two at low)) ∙ c.loop-high.invariant.read);
    }

pub returns-clause-exact : goal.returns-clause-exact
returns-clause-exact c = sym c.loop-high.invariant.read ∙ first_none c.loop-high.read.items c.args.text.now c.loop-high.at c.in_default.ensures.value
