use Rattle.std.proofs.Common.{arith, ◌∙◌}
use Rattle.std.proofs.lemmas.Result.{err_from_is_err_and}
use Rattle.words.specs.Laws.{refused_so}
use Rattle.report.specs.Refusal.{is_memory_of_report}
use Rattle.report.specs.declared.stage.Part.TheVariants.{Nothing}
use Rattle.report.proofs.ReportLemmas.{part_begun, part_byte, part_line, part_wrong, part_ended}
use Rattle.report.proofs.TakenLemmas.{report_seen}
use Rattle.report.proofs.reading.read_entries.Goals as goal

pub loop-at-init : goal.loop-at-init
loop-at-init g c = record {
  few = omega arith;
  before = omega arith;
  fits = tt;
  so_far = part_begun (record { begun = g.T.Taker.begun; more = g.T.Taker.more }) 1 Nothing c.args.bytes.now ∙ report_seen (record { begun = g.T.Taker.begun; more = g.T.Taker.more }) c.args.bytes.now;
}

pub loop-at-preserved-then-bytes-at-ne10 : goal.loop-at-preserved-then-bytes-at-ne10
loop-at-preserved-then-bytes-at-ne10 g c = record {
  few = omega (arith, c.loop-at.invariant.few);
  before = omega (arith, c.loop-at.invariant.before);
  fits = c.loop-at.invariant.fits;
  so_far = part_byte (record { begun = g.T.Taker.begun; more = g.T.Taker.more }) c.loop-at.number c.loop-at.part c.args.bytes.now c.loop-at.start c.loop-at.at _ c.loop-at.invariant.before c.loop-at-test.true c.if-bytes-at-ne10.true c.loop-at.invariant.so_far;
}

pub returns-in_err-part-clause-exact : goal.returns-in_err-part-clause-exact
returns-in_err-part-clause-exact g c =
    let p = err_from_is_err_and c.from_residual.result c.from_residual.ensures.1 in
    rw (p.1, p.2)
    (refused_so (is_memory_of_report c.in_err-part.field-0.0)
    (λ h. part_wrong (record { begun = g.T.Taker.begun; more = g.T.Taker.more }) c.loop-at.number c.loop-at.part c.args.bytes.now c.loop-at.start c.loop-at.at _ c.in_err-part.field-0.0 c.loop-at-test.true
    c.if-bytes-at-ne10.false h c.loop-at.invariant.so_far) c.in_err-part.ensures.exact)

pub loop-at-preserved : goal.loop-at-preserved
loop-at-preserved g c = record {
  few = omega (arith, c.loop-at.invariant.few);
  before = omega arith;
  fits = c.in_ok-part.ensures.fits c.loop-at.invariant.fits;
  so_far = part_line (record { begun = g.T.Taker.begun; more = g.T.Taker.more }) c.loop-at.number c.loop-at.part c.in_ok-part.part c.args.bytes.now c.loop-at.start c.loop-at.at _ c.loop-at-test.true c.if-bytes-at-ne10.false c.in_ok-part.ensures.exact c.loop-at.invariant.so_far;
}

pub returns-clause-exact : goal.returns-clause-exact
returns-clause-exact g c = part_ended (record { begun = g.T.Taker.begun; more = g.T.Taker.more }) c.loop-at.number c.loop-at.part c.args.bytes.now c.loop-at.start c.loop-at.at _ c.finished.result c.loop-at-test.false c.loop-at.auto.at-end c.loop-at.invariant.so_far c.finished.ensures.exact
