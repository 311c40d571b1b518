use Rattle.lineage_inherit.specs.FirstRowId.{AreCounted}
use Rattle.inherit_tests.proofs.files.entries_of.Given as goal

-- no count so far is below 0
abbrev pub invariant-loop-told : goal.invariant-loop-told
invariant-loop-told l = AreCounted l.entries
