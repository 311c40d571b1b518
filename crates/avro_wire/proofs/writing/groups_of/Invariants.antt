use Rattle.avro_wire.proofs.PutSteps.{IsPut}
use Rattle.avro_wire.proofs.writing.groups_of.Given as goal

abbrev pub invariant-loop-left : goal.invariant-loop-left
invariant-loop-left l = IsPut l.groups l.count l.left l.value

abbrev pub decreases-loop-left : goal.decreases-loop-left
decreases-loop-left l = l.left
