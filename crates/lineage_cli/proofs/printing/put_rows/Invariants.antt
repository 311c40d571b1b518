use Rattle.std.proofs.Common.{◌≡◌, length}
use Rattle.lineage_cli.specs.Text.{lines}
use Rattle.lineage_cli.proofs.PrintLemmas.{IsBegun}
use Rattle.lineage_cli.proofs.printing.put_rows.Given as goal

abbrev pub invariant-loop-out : goal.invariant-loop-out
invariant-loop-out g l = record {
  begun : IsBegun (g.W.Sink.seen l.initial.out).written l.initial.buffer (g.W.Sink.seen l.out).written l.buffer (lines l.rows.left) (lines l.initial.rows.left);
  counted : (g.W.Sink.seen l.out).counts ≡ (g.W.Sink.seen l.initial.out).counts;
}

abbrev pub decreases-loop-out : goal.decreases-loop-out
decreases-loop-out g l = length l.rows.left
