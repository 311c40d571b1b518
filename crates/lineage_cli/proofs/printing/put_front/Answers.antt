use Rattle.std.proofs.Common.{◌++◌, rules, SFits}
use Rattle.std.specs.Fmt.{signed_decimal}
use Rattle.std.specs.Int.{w64}
use Rattle.std.proofs.lemmas.Int.{to_z-of_z}
use Rattle.std.proofs.lemmas.Result.{err_from_is_err_and}
use Rattle.pieces.specs.Number.{optional_text}
use Rattle.lineage_cli.specs.Text.{spaced}
use Rattle.lineage_cli.proofs.OutputLemmas.{front_more, waits_there}
use Rattle.lineage_cli.proofs.printing.put_front.Goals as goal

pub returns-in_err-make_room-clause-text : goal.returns-in_err-make_room-clause-text
returns-in_err-make_room-clause-text g c =
    let p = err_from_is_err_and c.from_residual.result c.from_residual.ensures.1 in
    let front = spaced (optional_text c.args.id) ++ spaced (signed_decimal c.args.last) in
    rw p.1 (front_more _ _ c.args.buffer.now front c.in_err-make_room.ensures.text)

pub returns-clause-text : goal.returns-clause-text
returns-clause-text g c =
    let fits : SFits w64 c.args.last = search rules in
    let put = simp to_z-of_z at c.push_front.ensures.put in
    let front = spaced (optional_text c.args.id) ++ spaced (signed_decimal c.args.last) in
    waits_there _ _ c.args.buffer.now c.make_room.new.buffer _ front c.in_ok-make_room.ensures.text put
