use Rattle.metadata_reading.proofs.BraceSteps.{SoFar}
use Rattle.metadata_reading.proofs.braces.count_braces.Given as goal

-- all braces are counted, or still to come
abbrev pub invariant-loop-i : goal.invariant-loop-i
invariant-loop-i l = SoFar l.count l.i l.text
