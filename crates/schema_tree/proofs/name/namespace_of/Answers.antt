use Rattle.std.proofs.Common.{◌≡◌, ℕ, suc, ◌-◌, false, take, drop, sym, ap, subst, ◌∙◌, arith}
use Rattle.schema_tree.specs.Names.{has_dot}
use Rattle.schema_tree.proofs.NameLaws.{last_dot, no_dot}
use Rattle.schema_tree.proofs.name.namespace_of.Goals as goal

pub returns-then-bytes-end-eq46 : goal.returns-then-bytes-end-eq46
returns-then-bytes-end-eq46 c =
    let name = c.args.name.now in
    let next : c.loop-end.end ≡ suc (c.loop-end.end - 1) = omega (arith, c.loop-end-test.true) in
    let behind = subst (λ at. has_dot (drop at name) ≡ false) next c.loop-end.invariant.behind in
    let here = last_dot name (c.loop-end.end - 1) (omega (arith, c.loop-end-test.true, c.loop-end.invariant.within)) (rw (← c.as_bytes-bytes.ensures.value) c.if-bytes-end-eq46.true) behind in
    let front : (c.loop-end.end - 1) - 0 ≡ c.loop-end.end - 1 = omega arith in
    c.range.ensures.value ∙ ap (λ (n : ℕ). take n name) front ∙ sym here

pub returns : goal.returns
returns c =
    let start : c.loop-end.end ≡ 0 = omega (arith, c.loop-end-test.false) in
    sym (no_dot c.args.name.now (subst (λ at. has_dot (drop at c.args.name.now) ≡ false) start c.loop-end.invariant.behind))
