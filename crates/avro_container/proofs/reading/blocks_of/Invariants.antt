use Rattle.std.proofs.Common.{◌≡◌, ◌++◌, length}
use Rattle.avro_container.proofs.reading.blocks_of.Given as goal

abbrev pub invariant-loop-count : goal.invariant-loop-count
invariant-loop-count l = record {
  whole : l.walk.whole ≡ l.fn.walk.whole;
  parts : l.blocks ++ l.walk.left ≡ l.fn.walk.left;
}

abbrev pub decreases-loop-count : goal.decreases-loop-count
decreases-loop-count l = length l.walk.left
