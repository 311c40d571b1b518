use Rattle.std.proofs.Common.{◌∙◌, List, ℕ, ◌++◌, ap, subst}
use Rattle.std.specs.Prelude.{codes}
use Rattle.std.proofs.lemmas.Result.{err_from_is_err_and}
use Rattle.refusal_text.specs.Told.{spaced}
use Rattle.lineage_cli.specs.Class.{class_word}
use Rattle.lineage_cli.specs.Ending.{class_of, ending_text}
use Rattle.lineage_cli.specs.Output.{Gains, AppendsFront}
use Rattle.lineage_cli.proofs.OutputLemmas.{shows_front, shows_stop, shows_then}
use Rattle.lineage_cli.proofs.ending.put_line.Goals as goal

pub returns-in_err-put-clause-text : goal.returns-in_err-put-clause-text
returns-in_err-put-clause-text g c =
    let p = err_from_is_err_and c.from_residual.result c.from_residual.ensures.1 in
    let word = class_word (class_of c.args.ending.now) in
    let text = spaced (ending_text c.args.ending.now) in
    rw p.1 (shows_front _ _ c.args.buffer.now (codes "rowline: ") (word ++ (text ++ codes "\n")) c.in_err-put.ensures.text)

pub returns-in_err-put_plain-clause-text : goal.returns-in_err-put_plain-clause-text
returns-in_err-put_plain-clause-text g c =
    let p = err_from_is_err_and c.from_residual-in_err-put_plain.result c.from_residual-in_err-put_plain.ensures.1 in
    let first = (g.E.Sink.seen c.put.new.out).written in
    let second = (g.E.Sink.seen c.put_plain.new.out).written in
    let waits = c.put.new.buffer in
    let word = class_word (class_of c.args.ending.now) in
    let text = spaced (ending_text c.args.ending.now) in
    let is = c.class_word.ensures ∙ ap class_word c.class_of.ensures in
    let part = subst (λ (l : List ℕ). AppendsFront first second (waits ++ l)) is c.in_err-put_plain.ensures.text in
    rw p.1 (shows_stop _ first second c.args.buffer.now waits (codes "rowline: ") (word ++ (text ++ codes "\n")) c.in_ok-put.ensures.text
    (shows_front first second waits word (text ++ codes "\n") part))

pub returns-in_err-put_told-clause-text : goal.returns-in_err-put_told-clause-text
returns-in_err-put_told-clause-text g c =
    let p = err_from_is_err_and c.from_residual-in_err-put_told.result c.from_residual-in_err-put_told.ensures.1 in
    let first = (g.E.Sink.seen c.put.new.out).written in
    let second = (g.E.Sink.seen c.put_plain.new.out).written in
    let third = (g.E.Sink.seen c.put_told.new.out).written in
    let waits = c.put.new.buffer in
    let then = c.put_plain.new.buffer in
    let word = class_word (class_of c.args.ending.now) in
    let text = spaced (ending_text c.args.ending.now) in
    let is = c.class_word.ensures ∙ ap class_word c.class_of.ensures in
    let whole = subst (λ (l : List ℕ). Gains first second (waits ++ l) then) is c.in_ok-put_plain.ensures.text in
    let part = subst (λ (l : List ℕ). AppendsFront second third (then ++ l)) c.told_of.ensures c.in_err-put_told.ensures.text in
    rw p.1 (shows_stop _ first third c.args.buffer.now waits (codes "rowline: ") (word ++ (text ++ codes "\n")) c.in_ok-put.ensures.text
    (shows_stop first second third waits then word (text ++ codes "\n") whole (shows_front second third then text (codes "\n") part)))

pub returns-clause-text : goal.returns-clause-text
returns-clause-text g c =
    let before = (g.E.Sink.seen c.args.err.now).written in
    let first = (g.E.Sink.seen c.put.new.out).written in
    let second = (g.E.Sink.seen c.put_plain.new.out).written in
    let third = (g.E.Sink.seen c.put_told.new.out).written in
    let last = (g.E.Sink.seen c.put-2.new.out).written in
    let waits = c.put.new.buffer in
    let then = c.put_plain.new.buffer in
    let next = c.put_told.new.buffer in
    let now = c.put-2.new.buffer in
    let word = class_word (class_of c.args.ending.now) in
    let text = spaced (ending_text c.args.ending.now) in
    let is = c.class_word.ensures ∙ ap class_word c.class_of.ensures in
    let whole = subst (λ (l : List ℕ). Gains first second (waits ++ l) then) is c.in_ok-put_plain.ensures.text in
    let told = subst (λ (l : List ℕ). Gains second third (then ++ l) next) c.told_of.ensures c.in_ok-put_told.ensures.text in
    shows_then before first last c.args.buffer.now waits now c.put-2.result (codes "rowline: ") (word ++ (text ++ codes "\n")) c.in_ok-put.ensures.text
    (shows_then first second last waits then now c.put-2.result word (text ++ codes "\n") whole
    (shows_then second third last then next now c.put-2.result text (codes "\n") told c.put-2.ensures.text))
