use Rattle.std.proofs.Common.{◌∙◌, arith}
use Rattle.std.proofs.lemmas.Result.{err_from_is_err_and}
use Rattle.lineage_cli.proofs.OutputLemmas.{stops_at, takes_more}
use Rattle.lineage_cli.proofs.output.write_all.Goals as goal

pub returns-in_err-at-clause-text : goal.returns-in_err-at-clause-text
returns-in_err-at-clause-text g c =
    let p = err_from_is_err_and c.from_residual.result c.from_residual.ensures.1 in
    rw p.1 (stops_at _ (g.W.Sink.seen c.loop-at.out).written _ c.loop-at.at c.args.piece.now c.loop-at.invariant.so_far c.in_err-at.ensures.bytes)

pub loop-at-preserved : goal.loop-at-preserved
loop-at-preserved g c = record {
  within = omega (arith, c.in_ok-at.ensures.bound);
  so_far = takes_more _ (g.W.Sink.seen c.loop-at.out).written _ c.loop-at.at c.in_ok-at.field-0 c.args.piece.now c.loop-at.invariant.so_far c.in_ok-at.ensures.bytes;
  counted = c.in_ok-at.ensures.counted ∙ c.loop-at.invariant.counted;
}
