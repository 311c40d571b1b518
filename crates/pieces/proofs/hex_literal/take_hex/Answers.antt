use Rattle.std.proofs.Common.{◌≡◌, true, rules}
use Rattle.std.proofs.lemmas.Result.{err_from_is_err_and}
use Rattle.words.specs.Holds.{of_read}
use Rattle.pieces.specs.HexLiteral.{hex_at, are_bytes}
use Rattle.pieces.specs.HexLaws.{hex_fits}
use Rattle.pieces.proofs.hex_literal.take_hex.Goals as goal

pub returns-in_err-bytes-clause-exact : goal.returns-in_err-bytes-clause-exact
returns-in_err-bytes-clause-exact c =
    let p = err_from_is_err_and c.from_residual-in_err-bytes.result c.from_residual-in_err-bytes.ensures.1 in
    rw (p.1, p.2) tt

pub returns-clause-bytes : goal.returns-clause-bytes
returns-clause-bytes c =
    let text = c.args.text.now in
    let place = c.args.place in
    of_read (λ read. are_bytes read.0 ≡ true) (hex_at text place) (c.in_ok-bytes.bytes, c.in_ok-after.after)
    (search rules) (hex_fits text place)
