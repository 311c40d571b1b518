use Rattle.std.proofs.Common.{length, arith, rules, SFits}
use Rattle.std.specs.Int.{w64}
use Rattle.std.proofs.lemmas.Int.{to_z-of_z}
use Rattle.std.proofs.lemmas.Result.{err_from_is_err_and}
use Rattle.words.specs.Laws.{refused_so}
use Rattle.avro_container.specs.Refusal.{is_memory}
use Rattle.avro_container.proofs.HeaderLemmas.{map_fails, map_ends, block_fails, map_goes_on, map_stops, is_zero}
use Rattle.avro_container.proofs.HeaderLemmas.{is_not_zero}
use Rattle.avro_container.proofs.header.take_map.Goals as goal

pub returns-in_err-count-clause-exact : goal.returns-in_err-count-clause-exact
returns-in_err-count-clause-exact c =
    let p = err_from_is_err_and c.from_residual.result c.from_residual.ensures.1 in
    rw (p.1, p.2) (refused_so (is_memory c.in_err-count.field-0.0) (λ e. map_fails (length c.args.input.now) c.loop.counter c.loop.pairs.pairs c.args.input.now c.loop.at c.in_err-count.field-0.0 _ c.loop-test.true e c.loop.invariant.so_far) c.in_err-count.ensures.exact)

pub returns-then-count-eq0-clause-exact : goal.returns-then-count-eq0-clause-exact
returns-then-count-eq0-clause-exact c =
    let fits : SFits w64 c.in_ok-count.count = search rules in
    map_ends (length c.args.input.now) c.loop.counter c.loop.pairs.pairs c.args.input.now c.loop.at c.in_ok-count.count c.in_ok-count.start _ c.loop-test.true c.in_ok-count.ensures.exact (is_zero c.in_ok-count.count fits c.if-count-eq0.true) c.loop.invariant.so_far

pub returns-in_err-at-clause-exact : goal.returns-in_err-at-clause-exact
returns-in_err-at-clause-exact c =
    let fits : SFits w64 c.in_ok-count.count = search rules in
    let exact = simp to_z-of_z at c.in_err-at.ensures.exact in
    let p = err_from_is_err_and c.from_residual-in_err-at.result c.from_residual-in_err-at.ensures.1 in
    let input = c.args.input.now in
    let refusal = c.in_err-at.field-0.0 in
    let count = c.in_ok-count.count in
    let some = is_not_zero count c.if-count-eq0.false in
    rw (p.1, p.2) (refused_so (is_memory refusal)
    (λ e. block_fails (length input) c.loop.counter c.loop.pairs.pairs input c.loop.at count c.in_ok-count.start refusal _
    c.loop-test.true c.in_ok-count.ensures.exact some e c.loop.invariant.so_far) exact)

pub loop-preserved : goal.loop-preserved
loop-preserved c =
    let fits : SFits w64 c.in_ok-count.count = search rules in
    let exact = simp to_z-of_z at c.in_ok-at.ensures.exact in
    let input = c.args.input.now in
    let count = c.in_ok-count.count in
    let some = is_not_zero count c.if-count-eq0.false in
    record {
      start = omega (arith, c.in_ok-at.ensures.within, c.in_ok-count.ensures.within);
      within = omega (arith, c.in_ok-at.ensures.within);
      input = c.take_map_block.ensures.input;
      so_far = map_goes_on (length input) c.loop.counter c.loop.pairs.pairs c.take_map_block.new.pairs.pairs input c.loop.at count
          c.in_ok-count.start c.in_ok-at.at _ c.loop-test.true c.in_ok-count.ensures.exact some exact c.loop.invariant.so_far;
    }

pub returns-clause-exact : goal.returns-clause-exact
returns-clause-exact c = map_stops (length c.args.input.now) c.loop.counter c.loop.pairs.pairs c.args.input.now c.loop.at _ c.loop-test.false c.loop.invariant.so_far
