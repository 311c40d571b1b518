use Rattle.fields.proofs.FirstLemmas.{needed_step, needed_done}
use Rattle.fields.proofs.layout.needed_of.Goals as goal

pub loop-place-preserved : goal.loop-place-preserved
loop-place-preserved c =
    needed_step c.args.wanted.now c.args.sources.now c.loop-place.place c.args.many c.first_of.result c.loop-place.needed.items c.push.new.self.items _ c.loop-place-test.true c.in_ok-push.ensures.items c.first_of.ensures c.loop-place.invariant

pub returns : goal.returns
returns c = needed_done c.args.wanted.now c.args.sources.now c.loop-place.place c.args.many c.loop-place.needed.items _ c.loop-place-test.false c.loop-place.invariant
