use Rattle.std.proofs.Common.{◌∷◌}
use Rattle.std.specs.Prelude.{decimal}
use Rattle.std.proofs.lemmas.Result.{err_from_is_err_and}
use Rattle.lineage_cli.proofs.OutputLemmas.{shows_front, shows_then}
use Rattle.lineage_cli.proofs.line.put_named.Goals as goal

pub returns-in_err-put_natural-clause-text : goal.returns-in_err-put_natural-clause-text
returns-in_err-put_natural-clause-text g c =
    let p = err_from_is_err_and c.from_residual.result c.from_residual.ensures.1 in
    rw p.1 (shows_front _ _ c.args.buffer.now (32 ∷ decimal c.args.number) (32 ∷ c.args.name.now) c.in_err-put_natural.ensures.text)

pub returns-clause-text : goal.returns-clause-text
returns-clause-text g c =
    let before = (g.W.Sink.seen c.args.out.now).written in
    let mid = (g.W.Sink.seen c.put_natural.new.out).written in
    let now = (g.W.Sink.seen c.put_spaced.new.out).written in
    let second = rw c.as_bytes.ensures.value at c.put_spaced.ensures.text in
    shows_then before mid now c.args.buffer.now c.put_natural.new.buffer c.put_spaced.new.buffer c.put_spaced.result (32 ∷ decimal c.args.number) (32 ∷ c.args.name.now) c.in_ok-put_natural.ensures.text second
