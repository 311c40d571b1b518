use Rattle.std.proofs.Common.{ℕ, List, ◌++◌, ◌∙◌, ap, sym, subst}
use Rattle.std.specs.Prelude.{codes}
use Rattle.lineage_cli.specs.Output.{Gains, Shows}
use Rattle.lineage_cli.proofs.LineLemmas.{spaced_word, spaced_none}
use Rattle.lineage_cli.proofs.OutputLemmas.{shows_none}
use Rattle.lineage_cli.proofs.line.put_word.Goals as goal

pub returns-then-is_empty-clause-text : goal.returns-then-is_empty-clause-text
returns-then-is_empty-clause-text g c =
    let before = (g.W.Sink.seen c.args.out.now).written in
    let waits = c.args.buffer.now in
    let none = spaced_none c.args.word.now (sym c.is_empty.ensures ∙ c.if-is_empty.true) in
    subst (λ (l : List ℕ). Gains before before (waits ++ l) waits) (sym none) (shows_none before waits)

pub returns-clause-text : goal.returns-clause-text
returns-clause-text g c =
    let before = (g.W.Sink.seen c.args.out.now).written in
    let now = (g.W.Sink.seen c.put_spaced.new.out).written in
    let some = spaced_word c.args.word.now (sym c.is_empty.ensures ∙ c.if-is_empty.false) in
    let is = ap (λ (l : List ℕ). codes " " ++ l) c.as_bytes.ensures.value ∙ sym some in
    subst (λ (l : List ℕ). Shows before c.args.buffer.now now c.put_spaced.new.buffer c.put_spaced.result l) is c.put_spaced.ensures.text
