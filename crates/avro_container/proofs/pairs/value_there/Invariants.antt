use Rattle.std.proofs.Common.{◌≡◌, drop}
use Rattle.avro_container.specs.Header.{bound_to}
use Rattle.avro_container.specs.Pairs.{pairs_there}
use Rattle.avro_container.proofs.pairs.value_there.Given as goal

abbrev pub invariant-loop-place : goal.invariant-loop-place
invariant-loop-place l = bound_to (pairs_there l.input (drop l.place-index l.places)) l.key ≡ bound_to (pairs_there l.input l.places) l.key
