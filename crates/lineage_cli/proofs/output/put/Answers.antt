use Rattle.std.proofs.lemmas.Result.{err_from_is_err_and}
use Rattle.lineage_cli.proofs.OutputLemmas.{front_more, waits_there}
use Rattle.lineage_cli.proofs.output.put.Goals as goal

pub returns-in_err-make_room-clause-text : goal.returns-in_err-make_room-clause-text
returns-in_err-make_room-clause-text g c =
    let p = err_from_is_err_and c.from_residual.result c.from_residual.ensures.1 in
    rw p.1 (front_more _ _ c.args.buffer.now c.args.piece.now c.in_err-make_room.ensures.text)

pub returns-clause-text : goal.returns-clause-text
returns-clause-text g c =
    waits_there _ _ c.args.buffer.now c.make_room.new.buffer _ c.args.piece.now c.in_ok-make_room.ensures.text c.push.ensures.put
