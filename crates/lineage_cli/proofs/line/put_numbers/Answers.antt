use Rattle.std.proofs.Common.{◌∷◌, rules, SFits}
use Rattle.std.specs.Fmt.{signed_decimal}
use Rattle.std.specs.Int.{w64}
use Rattle.std.proofs.lemmas.Int.{to_z-of_z}
use Rattle.std.proofs.lemmas.Result.{err_from_is_err_and}
use Rattle.lineage_cli.proofs.OutputLemmas.{shows_front, shows_then}
use Rattle.lineage_cli.proofs.line.put_numbers.Goals as goal

pub returns-in_err-put_number-clause-text : goal.returns-in_err-put_number-clause-text
returns-in_err-put_number-clause-text g c =
    let fits : SFits w64 c.args.first = search rules in
    let exact = simp to_z-of_z at c.in_err-put_number.ensures.text in
    let p = err_from_is_err_and c.from_residual.result c.from_residual.ensures.1 in
    rw p.1 (shows_front _ _ c.args.buffer.now (32 ∷ signed_decimal c.args.first) (32 ∷ signed_decimal c.args.second) exact)

pub returns-clause-text : goal.returns-clause-text
returns-clause-text g c =
    let fits : SFits w64 c.args.first = search rules in
    let fits_second : SFits w64 c.args.second = search rules in
    let first = simp to_z-of_z at c.in_ok-put_number.ensures.text in
    let second = simp to_z-of_z at c.put_number-2.ensures.text in
    let before = (g.W.Sink.seen c.args.out.now).written in
    let mid = (g.W.Sink.seen c.put_number.new.out).written in
    let now = (g.W.Sink.seen c.put_number-2.new.out).written in
    shows_then before mid now c.args.buffer.now c.put_number.new.buffer c.put_number-2.new.buffer c.put_number-2.result (32 ∷ signed_decimal c.args.first) (32 ∷ signed_decimal c.args.second) first second
