use Rattle.std.proofs.Common.{pos, ◌+ℤ◌, ◌-ℤ◌, ◌<ℤ◌, ◌≤ℤ◌, get_or, drop, w64, arith, rules}
use Rattle.std.specs.Int.RustNames.{FitsSigned}
use Rattle.std.proofs.lemmas.Int.{ints, to_z-of_z}
use Rattle.lineage_model.specs.Ids.{ids_of}
use Rattle.history_log.proofs.IdsLemmas.{loads, no_more, takes, takes_last, next_fits}
use Rattle.history_log.proofs.ids.Ids.next.Goals as goal

pub returns-then-self : goal.returns-then-self
returns-then-self c =
    let ids = c.loop-self.self-inside in
    let few : ids.left ≤ℤ pos 0 = omega (arith, ints) in
    no_more ids.next ids.left ids.runs.now ids.place c.args.self.now few c.if-self.true c.loop-self.invariant

pub loop-self-preserved : goal.loop-self-preserved
loop-self-preserved c =
    let ids = c.loop-self.self-inside in
    let few : ids.left ≤ℤ pos 0 = omega (arith, ints) in
    let run = get_or ids.runs.now ids.place (record { first = pos 0; count = pos 0 }) in
    let first_fits : FitsSigned w64 run.first = search rules in
    let count_fits : FitsSigned w64 run.count = search rules in
    simp to_z-of_z (loads ids.next ids.left ids.runs.now ids.place (record { first = pos 0; count = pos 0 }) c.args.self.now few c.if-self.false c.loop-self.invariant)

pub overflow_add-self-then-self-gt0 : goal.overflow_add-self-then-self-gt0
overflow_add-self-then-self-gt0 c =
    let ids = c.loop-self.self-inside in
    let next_is : FitsSigned w64 ids.next = search rules in
    let more : pos 0 <ℤ (ids.left -ℤ pos 1) = omega (arith, ints) in
    simp to_z-of_z (next_fits ids.next ids.left (ids_of (drop ids.place ids.runs.now)) c.args.self.now more next_is c.loop-self.invariant c.requires.fits)

pub returns-then-self-gt0 : goal.returns-then-self-gt0
returns-then-self-gt0 c =
    let ids = c.loop-self.self-inside in
    let some : pos 0 <ℤ ids.left = omega (arith, ints) in
    let more : pos 0 <ℤ (ids.left -ℤ pos 1) = omega (arith, ints) in
    let next_is : FitsSigned w64 ids.next = search rules in
    let left_is : FitsSigned w64 ids.left = search rules in
    let fewer_is : FitsSigned w64 (ids.left -ℤ pos 1) = omega (arith, ints) in
    let later_is : FitsSigned w64 (ids.next +ℤ pos 1) = next_fits ids.next ids.left (ids_of (drop ids.place ids.runs.now)) c.args.self.now more next_is c.loop-self.invariant c.requires.fits in
    simp to_z-of_z (takes ids.next ids.left (ids_of (drop ids.place ids.runs.now)) c.args.self.now some c.loop-self.invariant)

pub returns-else-self-gt0 : goal.returns-else-self-gt0
returns-else-self-gt0 c =
    let ids = c.loop-self.self-inside in
    let some : pos 0 <ℤ ids.left = omega (arith, ints) in
    let last : (ids.left -ℤ pos 1) ≤ℤ pos 0 = omega (arith, ints) in
    let next_is : FitsSigned w64 ids.next = search rules in
    let left_is : FitsSigned w64 ids.left = search rules in
    let fewer_is : FitsSigned w64 (ids.left -ℤ pos 1) = omega (arith, ints) in
    simp to_z-of_z (takes_last ids.next ids.left (ids_of (drop ids.place ids.runs.now)) c.args.self.now some last c.loop-self.invariant)
