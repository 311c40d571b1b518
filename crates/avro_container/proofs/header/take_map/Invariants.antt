use Rattle.std.proofs.Common.{◌≡◌, ◌-◌, ◌≤◌, length}
use Rattle.avro_container.specs.Header.{map_at}
use Rattle.avro_container.proofs.header.take_map.Given as goal

abbrev pub invariant-loop : goal.invariant-loop
invariant-loop l = record {
  start : l.place ≤ l.at;
  within : l.at ≤ length l.input;
  input : l.pairs.input ≡ l.input;
  so_far : map_at (length l.input - l.counter) l.pairs.pairs l.input l.at ≡ map_at (length l.input) l.fn.pairs.pairs l.input l.place;
}
