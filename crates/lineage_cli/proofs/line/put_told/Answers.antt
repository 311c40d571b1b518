use Rattle.std.proofs.lemmas.Result.{err_from_is_err_and}
use Rattle.refusal_text.specs.Detail.{detail_text}
use Rattle.refusal_text.specs.Told.{spaced}
use Rattle.lineage_cli.proofs.OutputLemmas.{shows_front, shows_then}
use Rattle.lineage_cli.proofs.line.put_told.Goals as goal

pub returns-in_err-put_word-clause-text : goal.returns-in_err-put_word-clause-text
returns-in_err-put_word-clause-text g c =
    let p = err_from_is_err_and c.from_residual.result c.from_residual.ensures.1 in
    rw p.1 (shows_front _ _ c.args.buffer.now (spaced c.args.told.word.now) (detail_text c.args.told.detail) c.in_err-put_word.ensures.text)

pub returns-clause-text : goal.returns-clause-text
returns-clause-text g c =
    let before = (g.W.Sink.seen c.args.out.now).written in
    let mid = (g.W.Sink.seen c.put_word.new.out).written in
    let now = (g.W.Sink.seen c.put_detail.new.out).written in
    shows_then before mid now c.args.buffer.now c.put_word.new.buffer c.put_detail.new.buffer c.put_detail.result (spaced c.args.told.word.now) (detail_text c.args.told.detail) c.in_ok-put_word.ensures.text c.put_detail.ensures.text
