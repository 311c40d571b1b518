use Rattle.std.proofs.Common.{◌≡◌, length}
use Rattle.lineage_cli.specs.Text.{part_text}
use Rattle.lineage_cli.proofs.PrintLemmas.{IsBegun}
use Rattle.lineage_cli.proofs.parts.put_parts.Given as goal

abbrev pub invariant-loop-rest : goal.invariant-loop-rest
invariant-loop-rest g l = record {
  begun : IsBegun (g.W.Sink.seen l.initial.out).written l.initial.buffer (g.W.Sink.seen l.out).written l.buffer (part_text l.form l.rest) (part_text l.form l.bytes);
  counted : (g.W.Sink.seen l.out).counts ≡ (g.W.Sink.seen l.initial.out).counts;
}

abbrev pub decreases-loop-rest : goal.decreases-loop-rest
decreases-loop-rest g l = length l.rest
