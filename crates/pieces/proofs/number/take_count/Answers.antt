use Rattle.std.proofs.Common.{◌^◌, ◌-◌, Ok, SFits, w64, rules}
use Rattle.std.proofs.lemmas.Int.{to_z-of_z}
use Rattle.pieces.proofs.NumberLemmas.{count_within, value_fits}
use Rattle.pieces.proofs.CountLaws.{read_some}
use Rattle.pieces.proofs.number.take_count.Goals as goal

pub above_zero-requires : goal.above_zero-requires
above_zero-requires c = value_fits (2 ^ 63 - 1) c.args.text.now c.args.place c.in_ok-value.value c.in_ok-value.after (search rules)

pub returns-clause-within : goal.returns-clause-within
returns-clause-within c = count_within c.args.text.now c.args.place (Ok (c.above_zero.result, c.in_ok-value.after)) (search rules)

pub returns-clause-some : goal.returns-clause-some
returns-clause-some c =
    let fits : SFits w64 c.above_zero.result = search rules in
    simp to_z-of_z (read_some c.args.text.now c.args.place (Ok (c.above_zero.result, c.in_ok-value.after)) (search rules))
