use Rattle.lineage_inherit.specs.Assignment.{AreNatural}
use Rattle.inherit_tests.proofs.assignment.live_of.Given as goal

-- no number of rows so far is below 0
abbrev pub invariant-loop-told : goal.invariant-loop-told
invariant-loop-told l = AreNatural l.live
