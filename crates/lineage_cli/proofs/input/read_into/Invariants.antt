use Rattle.std.proofs.Common.{◌≡◌, ◌<◌, ◌+◌, ◌-◌, ◌≤◌, length}
use Rattle.std.specs.Io.KnownBytes.{Consumes}
use Rattle.lineage_cli.proofs.input.read_into.Given as goal

abbrev pub invariant-loop-bytes : goal.invariant-loop-bytes
invariant-loop-bytes g l = record {
  so_far : Consumes (g.S.Source.seen l.initial.input).left (g.S.Source.seen l.input).left l.bytes.items;
  few : length l.bytes.items ≤ l.most + 1;
  room : 0 < length l.room;
  counted : (g.S.Source.seen l.input).faults ≡ (g.S.Source.seen l.initial.input).faults;
}

abbrev pub decreases-loop-bytes : goal.decreases-loop-bytes
decreases-loop-bytes g l = l.most + 1 - length l.bytes.items
