use Rattle.std.proofs.Common.{◌≤◌, length, ap, arith, length-take, Err}
use Rattle.std.proofs.lemmas.Result.{err_from_is_err_and}
use Rattle.lineage_cli.proofs.InputLemmas.{stops_next}
use Rattle.lineage_cli.proofs.input.read_into.Goals as goal

pub returns-in_err-read_piece-clause-stops : goal.returns-in_err-read_piece-clause-stops
returns-in_err-read_piece-clause-stops g c =
    let p = err_from_is_err_and c.from_residual.result c.from_residual.ensures.1 in
    let few : length c.loop-bytes.bytes.items ≤ c.args.most = omega (arith, c.loop-bytes-test.true) in
    let piece = c.in_err-read_piece.ensures in
    rw (p.1, p.2)
    (stops_next c.args.most c.min-size.result (g.S.Source.seen c.args.input.now).left (g.S.Source.seen c.loop-bytes.input).left (g.S.Source.seen c.read_piece.new.input).left
    c.loop-bytes.bytes.items c.in_err-read_piece.field-0.0 c.loop-bytes.invariant.so_far few (omega (arith, c.min-size.ensures))
    piece.unlimited (λ e. piece.unmoved (ap (λ r. Err r) e)) (λ e. let m = piece.few (ap (λ r. Err r) e) in (m.0, m.1, omega (arith, m.2, length-take c.min-size.result c.loop-bytes.room))))
