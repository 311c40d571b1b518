use Rattle.std.proofs.Common.{drop}
use Rattle.avro_wire.proofs.Groups.{IsRead}
use Rattle.avro_wire.proofs.reading.take_each_group.Given as goal

abbrev pub invariant-loop-index : goal.invariant-loop-index
invariant-loop-index l = IsRead (drop l.place l.input) l.index l.value
