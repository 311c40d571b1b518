use Rattle.std.proofs.Common.{◌≡◌, ◌-◌, ◌≤◌, length, take}
use Rattle.std.specs.Io.KnownBytes.{Appends}
use Rattle.lineage_cli.proofs.output.write_all.Given as goal

abbrev pub invariant-loop-at : goal.invariant-loop-at
invariant-loop-at g l = record {
  within : l.at ≤ length l.piece;
  so_far : Appends (g.W.Sink.seen l.initial.out).written (g.W.Sink.seen l.out).written (take l.at l.piece);
  counted : (g.W.Sink.seen l.out).counts ≡ (g.W.Sink.seen l.initial.out).counts;
}

abbrev pub decreases-loop-at : goal.decreases-loop-at
decreases-loop-at g l = length l.piece - l.at
