use Rattle.std.proofs.Common.{◌^◌, ◌-◌, ◌+◌, Ok, rules}
use Rattle.pieces.proofs.NumberLemmas.{positive_ends, natural_ends, value_within, signed_within}
use Rattle.pieces.proofs.number.take_signed.Goals as goal

pub signed_below-requires : goal.signed_below-requires
signed_below-requires c =
    let read = c.in_ok-positive.field-0 in
    value_within (2 ^ 63) _ _ read (positive_ends (2 ^ 63) c.args.text.now (c.args.place + 1) read (search rules))

pub signed_above-requires : goal.signed_above-requires
signed_above-requires c =
    let read = c.in_ok-natural.field-0 in
    value_within (2 ^ 63 - 1) _ _ read (natural_ends (2 ^ 63 - 1) c.args.text.now c.args.place read (search rules))

pub returns-then-stands-clause-within : goal.returns-then-stands-clause-within
returns-then-stands-clause-within c = signed_within c.args.text.now c.args.place (Ok c.signed_below.result) (search rules)

pub returns-clause-within : goal.returns-clause-within
returns-clause-within c = signed_within c.args.text.now c.args.place (Ok c.signed_above.result) (search rules)
