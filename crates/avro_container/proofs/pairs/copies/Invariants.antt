use Rattle.std.proofs.Common.{◌≡◌, take}
use Rattle.avro_container.specs.Pairs.{pairs_there}
use Rattle.avro_container.proofs.pairs.copies.Given as goal

abbrev pub invariant-loop-place : goal.invariant-loop-place
invariant-loop-place l = l.meta ≡ pairs_there l.input (take l.place-index l.places)
