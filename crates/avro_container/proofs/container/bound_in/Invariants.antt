use Rattle.std.proofs.Common.{◌≡◌, drop}
use Rattle.avro_container.specs.Header.{bound_to}
use Rattle.avro_container.proofs.container.bound_in.Given as goal

abbrev pub invariant-loop-pair : goal.invariant-loop-pair
invariant-loop-pair l = bound_to (drop l.pair-index l.pairs) l.key ≡ bound_to l.pairs l.key
