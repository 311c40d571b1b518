use Rattle.std.proofs.Common.{◌≡◌, pos, ◌<ℤ◌, ◌≤ℤ◌, to_z, of_z, w64, ◌∙◌, arith, rules}
use Rattle.std.specs.Int.RustNames.{FitsSigned}
use Rattle.std.proofs.lemmas.Int.{ints, to_z-of_z}
use Rattle.history_log.proofs.BehindLemmas.{behind_none, behind_below, behind_run, behind_sum}
use Rattle.history_log.proofs.ids.behind.Goals as goal

pub returns-then-run-le0 : goal.returns-then-run-le0
returns-then-run-le0 c = λ high rest top.
    let fits : to_z w64 (of_z w64 c.args.floor) ≡ c.args.floor = to_z-of_z w64 c.args.floor c.ranges.floor in
    let few : c.args.run.now.count ≤ℤ pos 0 = omega (arith, ints) in
    rw fits (behind_none c.args.floor high c.args.run.now.first c.args.run.now.count rest few)

pub returns-then-run-floor : goal.returns-then-run-floor
returns-then-run-floor c = λ high rest top.
    let some : pos 0 <ℤ c.args.run.now.count = omega (arith, ints) in
    let below : c.args.run.now.first <ℤ c.args.floor = omega (arith, ints) in
    behind_below c.args.floor high c.args.run.now.first c.args.run.now.count rest some below

pub returns : goal.returns
returns c = λ high rest top.
    let some : pos 0 <ℤ c.args.run.now.count = omega (arith, ints) in
    let on : c.args.floor ≤ℤ c.args.run.now.first = omega (arith, ints) in
    let first_fits : FitsSigned w64 c.args.run.now.first = search rules in
    let count_fits : FitsSigned w64 c.args.run.now.count = search rules in
    let sum = simp to_z-of_z at c.checked_add.ensures in
    behind_run c.args.floor high c.args.run.now.first c.args.run.now.count rest some on ∙ behind_sum c.checked_add.result c.args.run.now.first c.args.run.now.count high rest top some first_fits sum
