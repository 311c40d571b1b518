use Rattle.std.proofs.Common.{rules, sym, subst, w64, SFits}
use Rattle.std.proofs.lemmas.Int.{to_z-of_z}
use Rattle.lineage_inherit.specs.Assignment.{AreNatural}
use Rattle.lineage_inherit.specs.AssignmentLaws.{natural_more}
use Rattle.inherit_tests.proofs.assignment.live_of.Goals as goal

pub loop-told-preserved : goal.loop-told-preserved
loop-told-preserved c =
    let fits : SFits w64 c.in_ok-natural.field-0 = search rules in
    let pushed = simp to_z-of_z at c.in_ok-push.ensures.ok in
    subst AreNatural (sym pushed)
    (natural_more c.loop-told.live c.in_ok-natural.field-0 c.loop-told.invariant c.in_ok-natural.ensures.natural)
