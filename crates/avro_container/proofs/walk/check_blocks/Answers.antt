use Rattle.std.proofs.Common.{◌+◌, ◌-◌, length, sym, ap, ◌∙◌, arith}
use Rattle.std.proofs.lemmas.Result.{err_from_is_err_and}
use Rattle.words.specs.Reading.{outcome}
use Rattle.avro_container.specs.Block.{block_of, blocks_at}
use Rattle.avro_container.proofs.WalkLemmas.{ends_here, fails_here, goes_on, none_tried, outcome_behind}
use Rattle.avro_container.proofs.walk.check_blocks.Goals as goal

pub returns-then-place-input : goal.returns-then-place-input
returns-then-place-input c = sym c.loop-lent.invariant.so_far ∙ ap outcome (ends_here (length c.args.input.now - c.loop-lent.lent) c.args.sync.now (c.loop-lent.lent + 1) c.args.input.now c.loop-lent.place c.if-place-input.true)

pub returns-in_err-after : goal.returns-in_err-after
returns-in_err-after c =
    let p = err_from_is_err_and c.from_residual.result c.from_residual.ensures.1 in
    rw (p.1, p.2) (sym c.loop-lent.invariant.so_far ∙ ap outcome (fails_here (length c.args.input.now) c.loop-lent.lent c.args.sync.now (c.loop-lent.lent + 1) c.args.input.now c.loop-lent.place c.in_err-after.field-0.0 c.loop-lent-test.true c.if-place-input.false c.in_err-after.ensures.exact))

pub loop-lent-preserved : goal.loop-lent-preserved
loop-lent-preserved c =
    let input = c.args.input.now in
    let sync = c.args.sync.now in
    let lent = c.loop-lent.lent in
    let frame = c.in_ok-after.field-0-0 in
    let after = c.in_ok-after.after in
    let step = goes_on (length input) lent sync (lent + 1) input c.loop-lent.place frame after
    c.loop-lent-test.true c.if-place-input.false c.in_ok-after.ensures.exact in
    let others = blocks_at (length input - (lent + 1)) sync (lent + 1 + 1) input after in
    record {
      within = omega (arith, c.in_ok-after.ensures.within);
      so_far = sym (ap outcome step ∙ outcome_behind (block_of input frame) others) ∙ c.loop-lent.invariant.so_far;
    }

pub returns : goal.returns
returns c = sym c.loop-lent.invariant.so_far ∙ ap outcome (none_tried (length c.args.input.now) c.loop-lent.lent c.args.sync.now (c.loop-lent.lent + 1) c.args.input.now c.loop-lent.place c.loop-lent-test.false)
