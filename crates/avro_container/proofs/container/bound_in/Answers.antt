use Rattle.std.proofs.Common.{◌≡◌, List, ℕ, true, false, Some, sym, ap, ◌∙◌}
use Rattle.std.specs.Str.{bytes_eq}
use Rattle.avro_container.proofs.PairsLemmas.{bound_to-found, bound_to-next}
use Rattle.avro_container.proofs.container.bound_in.Goals as goal

pub returns-then-eq : goal.returns-then-eq
returns-then-eq c =
    let same : bytes_eq c.pair-item.result.0 c.args.key.now ≡ true = ap (λ (x : List ℕ). bytes_eq x c.args.key.now) (sym c.as_str.ensures) ∙ sym c.eq.ensures ∙ c.if-eq.true in
    let found = bound_to-found c.args.pairs.now c.loop-pair.pair-index c.pair-item.result c.args.key.now c.loop-pair-test.true c.pair-item.is same in
    ap (λ (x : List ℕ). Some x) c.as_slice.ensures ∙ sym found ∙ c.loop-pair.invariant

pub loop-pair-preserved : goal.loop-pair-preserved
loop-pair-preserved c =
    let other : bytes_eq c.pair-item.result.0 c.args.key.now ≡ false = ap (λ (x : List ℕ). bytes_eq x c.args.key.now) (sym c.as_str.ensures) ∙ sym c.eq.ensures ∙ c.if-eq.false in
    let next = bound_to-next c.args.pairs.now c.loop-pair.pair-index c.pair-item.result c.args.key.now c.loop-pair-test.true c.pair-item.is other in
    sym next ∙ c.loop-pair.invariant
