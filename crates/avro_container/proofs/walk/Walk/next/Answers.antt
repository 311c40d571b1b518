use Rattle.std.proofs.Common.{◌+◌, ◌-◌, [], length, sym, ap, ◌∙◌, arith}
use Rattle.std.specs.Int.{w64}
use Rattle.std.proofs.lemmas.Int.{to_z_pos}
use Rattle.words.specs.Reading.{value_or}
use Rattle.avro_container.specs.Container.{Walked}
use Rattle.avro_container.proofs.WalkLemmas.{ends_here, walk_goes_on, walk_never_fails}
use Rattle.avro_container.proofs.walk.Walk.next.Goals as goal

pub returns-then-self-clause-value : goal.returns-then-self-clause-value
returns-then-self-clause-value c =
    let w = c.self.inside in
    ap (λ (x : Walked). x.left) (sym c.self.view_is) ∙ ap (value_or []) (ends_here (length w.input.now - w.lent) w.sync (w.lent + 1) w.input.now w.place c.if-self.true)

pub returns-in_default-clause-value : goal.returns-in_default-clause-value
returns-in_default-clause-value c =
    let w = c.self.inside in
    absurd (walk_never_fails w.sync w.input.now w.lent w.place c.in_default.field-0 c.self.invariant.left c.self.invariant.lent_before c.if-self.false c.in_default.ensures.exact)

pub invariant_of-self : goal.invariant_of-self
invariant_of-self c =
    let w = c.self.inside in
    let step = walk_goes_on w.sync w.input.now w.lent w.place c.in-Ok.frame c.in-Ok.after c.self.invariant.left c.self.invariant.lent_before c.if-self.false c.in-Ok.ensures.exact in
    record {
      all = c.self.invariant.all;
      left = step.0;
      first_within = c.self.invariant.first_within;
      within = omega (arith, c.in-Ok.ensures.within);
      lent_before = omega (arith, c.in-Ok.ensures.within);
    }

pub returns-clause-value : goal.returns-clause-value
returns-clause-value c =
    let w = c.self.inside in
    let step = walk_goes_on w.sync w.input.now w.lent w.place c.in-Ok.frame c.in-Ok.after c.self.invariant.left c.self.invariant.lent_before c.if-self.false c.in-Ok.ensures.exact in
    let same = to_z_pos w64 c.in-Ok.frame.count c.in-Ok.ensures.frame.2 in
    rw same (ap (λ (x : Walked). x.left) (sym c.self.view_is) ∙ step.1)
