use Rattle.std.proofs.Common.{sym, ◌∙◌}
use Rattle.avro_container.proofs.PairsLemmas.{there_found, there_next}
use Rattle.avro_container.proofs.pairs.value_there.Goals as goal

pub returns-then-eq : goal.returns-then-eq
returns-then-eq c =
    sym (there_found c.args.input.now c.args.places.now c.loop-place.place-index c.args.key.now (c.pair_there.result.0.now, c.pair_there.result.1.now)
    c.loop-place-test.true c.pair_there.ensures (sym c.eq.ensures ∙ c.if-eq.true)) ∙ c.loop-place.invariant

pub loop-place-preserved : goal.loop-place-preserved
loop-place-preserved c =
    sym (there_next c.args.input.now c.args.places.now c.loop-place.place-index c.args.key.now (c.pair_there.result.0.now, c.pair_there.result.1.now)
    c.loop-place-test.true c.pair_there.ensures (sym c.eq.ensures ∙ c.if-eq.false)) ∙ c.loop-place.invariant
