use Rattle.std.proofs.Common.{◌^◌, [], pos, ◌<ℤ◌, w64, sym, arith, rules}
use Rattle.std.specs.Int.RustNames.{FitsSigned}
use Rattle.std.proofs.lemmas.Int.{ints, to_z-of_z}
use Rattle.lineage_model.specs.Ids.{ids_of}
use Rattle.history_log.proofs.BehindLemmas.{refused_second, both_rise}
use Rattle.history_log.proofs.ids.rise_within.Goals as goal

pub returns-in_default-behind_all : goal.returns-in_default-behind_all
returns-in_default-behind_all c =
    let top : c.args.high <ℤ pos (2 ^ 63) = omega (arith, ints) in
    let low_fits : FitsSigned w64 c.args.low = c.ranges.low in
    let middle_fits : FitsSigned w64 c.in-Some.middle = search rules in
    let first = simp to_z-of_z at (c.in-Some.ensures c.args.high (ids_of c.args.given.now) top) in
    let second = simp to_z-of_z at (c.in_default-behind_all.ensures c.args.high [] top) in
    sym (refused_second c.args.low c.in-Some.middle c.args.high (ids_of c.args.named.now) (ids_of c.args.given.now) first second)

pub returns : goal.returns
returns c =
    let top : c.args.high <ℤ pos (2 ^ 63) = omega (arith, ints) in
    let low_fits : FitsSigned w64 c.args.low = c.ranges.low in
    let high_fits : FitsSigned w64 c.args.high = c.ranges.high in
    let middle_fits : FitsSigned w64 c.in-Some.middle = search rules in
    let last_fits : FitsSigned w64 c.in-Some-behind_all.last = search rules in
    let first = simp to_z-of_z at (c.in-Some.ensures c.args.high (ids_of c.args.given.now) top) in
    let second = simp to_z-of_z at (c.in-Some-behind_all.ensures c.args.high [] top) in
    simp to_z-of_z (both_rise c.args.low c.in-Some.middle c.in-Some-behind_all.last c.args.high (ids_of c.args.named.now) (ids_of c.args.given.now) first second)
