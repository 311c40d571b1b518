use Rattle.std.proofs.Common.{◌≡◌, ◌+◌, ◌*◌, ◌%◌, ◌^◌, ℕ, Ok, get_or, drop, ap, ap₂, ◌∙◌, arith}
use Rattle.avro_wire.specs.Number.{Bounds}
use Rattle.avro_wire.proofs.Groups.{none_read, ends_well}
use Rattle.avro_wire.proofs.reading.take_groups.Goals as goal

pub returns-then-input-place-lt128-clause-exact : goal.returns-then-input-place-lt128-clause-exact
returns-then-input-place-lt128-clause-exact c =
    let bounds : Bounds = record { bytes = c.args.most; largest = c.args.largest } in
    let input = c.args.input.now in
    let place = c.args.place in
    let byte = get_or input place 0 in
    let here : byte ≡ get_or input (place + 0) 0 = ap (λ (n : ℕ). get_or input n 0) (omega arith) in
    let value : 0 + (byte % 128) * 2 ^ (7 * 0) ≡ c.from.result = omega (arith, c.from.ensures, c.if-input-place-lt128.true) in
    let read = ends_well bounds input place 0 0 byte (none_read (drop place input)) (omega (arith, c.requires.most)) (omega (arith, c.if-place-input.true)) here
    c.if-input-place-lt128.true (omega (arith, c.if-input-place-lt128.true, c.requires.largest)) in
    read ∙ ap₂ (λ (a b : ℕ). Ok (a, b)) value (omega arith)
