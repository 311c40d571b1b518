use Rattle.std.proofs.Common.{◌≡◌, ◌-◌, ◌≤◌, length}
use Rattle.avro_container.specs.Header.{pairs_at}
use Rattle.avro_container.proofs.header.take_pairs.Given as goal

abbrev pub invariant-loop : goal.invariant-loop
invariant-loop l = record {
  start : l.place ≤ l.at;
  within : l.at ≤ length l.input;
  input : l.pairs.input ≡ l.input;
  so_far : pairs_at (l.count - l.counter) l.pairs.pairs l.input l.at ≡ pairs_at l.count l.fn.pairs.pairs l.input l.place;
}
