use Rattle.std.proofs.Common.{arith}
use Rattle.std.proofs.lemmas.Result.{err_from_is_err_and}
use Rattle.words.specs.Laws.{refused_so, repeated_on, repeated_fail, repeated_end}
use Rattle.avro_container.specs.Header.{next_pair, pairs_at}
use Rattle.avro_container.specs.Refusal.{is_memory}
use Rattle.avro_container.proofs.header.take_pairs.Goals as goal

pub returns-in_err-at-clause-exact : goal.returns-in_err-at-clause-exact
unfolding pairs_at
returns-in_err-at-clause-exact c =
    let p = err_from_is_err_and c.from_residual.result c.from_residual.ensures.1 in
    rw (p.1, p.2) (refused_so (is_memory c.in_err-at.field-0.0) (λ e. repeated_fail (next_pair c.args.input.now) c.args.count c.loop.counter (c.loop.pairs.pairs, c.loop.at) c.in_err-at.field-0.0 _ c.loop-test.true e c.loop.invariant.so_far) c.in_err-at.ensures.exact)

pub loop-preserved : goal.loop-preserved
unfolding pairs_at
loop-preserved c = record {
  start = omega (arith, c.in_ok-at.ensures.within);
  within = omega (arith, c.in_ok-at.ensures.within);
  input = c.take_pair.ensures.input;
  so_far = repeated_on (next_pair c.args.input.now) c.args.count c.loop.counter (c.loop.pairs.pairs, c.loop.at) (c.take_pair.new.pairs.pairs, c.in_ok-at.at) _ c.loop-test.true c.in_ok-at.ensures.exact c.loop.invariant.so_far;
}

pub returns-clause-exact : goal.returns-clause-exact
unfolding pairs_at
returns-clause-exact c = repeated_end (next_pair c.args.input.now) c.args.count c.loop.counter (c.loop.pairs.pairs, c.loop.at) _ c.loop-test.false c.loop.invariant.so_far
