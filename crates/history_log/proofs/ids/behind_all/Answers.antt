use Rattle.std.proofs.Common.{◌≡◌, ◌+◌, ◌++◌, pos, drop, to_z, of_z, w64, ap, ◌∙◌, rules}
use Rattle.std.specs.declared.option.Option.TheVariants.{None, Some}
use Rattle.std.specs.Int.RustNames.{FitsSigned}
use Rattle.std.proofs.lemmas.Int.{to_z-of_z}
use Rattle.lineage_model.specs.Ids.{ids_of}
use Rattle.history_log.specs.Ids.{rise_within}
use Rattle.history_log.proofs.BehindLemmas.{goes_on, ends}
use Rattle.history_log.proofs.ids.behind_all.Goals as goal

pub returns-in_err-floor : goal.returns-in_err-floor
returns-in_err-floor c = λ high rest top.
    let runs = c.args.runs.now in
    let same : to_z w64 (of_z w64 c.args.low) ≡ c.args.low = to_z-of_z w64 c.args.low c.ranges.low in
    let so_far = rw same at (c.loop-run.invariant high rest top) in
    rw c.from_residual.ensures (goes_on c.args.low (to_z w64 c.loop-run.floor-bits) None runs c.loop-run.run-index (record { first = pos 0; count = pos 0 }) high rest c.loop-run-test.true so_far (c.in_err-floor.ensures high (ids_of (drop (c.loop-run.run-index + 1) runs) ++ rest) top))

pub loop-run-preserved : goal.loop-run-preserved
loop-run-preserved c = λ high rest top.
    let runs = c.args.runs.now in
    let fits : FitsSigned w64 c.in_ok-floor.floor = search rules in
    let step = c.in_ok-floor.ensures high (ids_of (drop (c.loop-run.run-index + 1) runs) ++ rest) top in
    rw (to_z-of_z w64 c.in_ok-floor.floor fits) (goes_on _ (to_z w64 c.loop-run.floor-bits) (Some c.in_ok-floor.floor) runs c.loop-run.run-index (record { first = pos 0; count = pos 0 }) high rest c.loop-run-test.true (c.loop-run.invariant high rest top) step)

pub returns : goal.returns
returns c = λ high rest top.
    let same : to_z w64 (of_z w64 c.args.low) ≡ c.args.low = to_z-of_z w64 c.args.low c.ranges.low in
    let so_far = rw same at (c.loop-run.invariant high rest top) in
    so_far ∙ ap (rise_within (to_z w64 c.loop-run.floor-bits) high) (ends c.args.runs.now c.loop-run.run-index rest c.loop-run-test.false)
