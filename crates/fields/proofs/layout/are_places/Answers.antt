use Rattle.fields.proofs.OrderLemmas.{place_none, place_on}
use Rattle.fields.proofs.layout.are_places.Goals as goal

pub loop-index-init : goal.loop-index-init
loop-index-init c = place_none

pub loop-index-preserved : goal.loop-index-preserved
loop-index-preserved c =
    place_on c.args.sources.now c.loop-index.index c.loop-index-test.true c.if-not-is_place.ensures c.loop-index.invariant
