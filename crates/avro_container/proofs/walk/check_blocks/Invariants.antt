use Rattle.std.proofs.Common.{◌≡◌, ◌+◌, ◌-◌, ◌≤◌, length}
use Rattle.words.specs.Reading.{outcome}
use Rattle.avro_container.specs.Block.{blocks_at}
use Rattle.avro_container.proofs.walk.check_blocks.Given as goal

abbrev pub invariant-loop-lent : goal.invariant-loop-lent
invariant-loop-lent l = record {
  within : l.place ≤ length l.input;
  so_far : outcome (blocks_at (length l.input - l.lent) l.sync (l.lent + 1) l.input l.place) ≡ outcome (blocks_at (length l.input) l.sync 1 l.input l.first);
}
