use Rattle.std.proofs.Common.{◌<◌, ℤ, pos, length, get_or, refl, arith, rules, w64, SFits}
use Rattle.std.proofs.lemmas.Int.{to_z-of_z}
use Rattle.lineage_inherit.proofs.GivenSteps.{natural_on, sum_still_natural, sum_step}
use Rattle.lineage_inherit.proofs.assignment.sum_given.Goals as goal

pub loop-i-preserved : goal.loop-i-preserved
loop-i-preserved c =
    let r : ℤ = get_or c.args.live.now c.loop-i.i (pos 0) in
    let fits : SFits w64 (get_or c.args.live.now c.loop-i.i (pos 0)) = search rules in
    let given_fits : SFits w64 c.rows_given.result = search rules in
    let sum_fits : SFits w64 c.sum_on-sum.result = search rules in
    let given = simp to_z-of_z at c.rows_given.ensures in
    let sum = simp to_z-of_z at c.sum_on-sum.ensures in
    let within : c.loop-i.i < length c.args.live.now = omega arith in
    let parts = natural_on c.args.live.now c.loop-i.i r within refl c.loop-i.invariant.natural in
    record {
      together = c.requires.together;
      natural = parts.1;
      sum = simp to_z-of_z (sum_still_natural c.index-list-i.result r _ c.rows_given.result c.sum_on-sum.result parts.0 c.loop-i.invariant.sum given sum);
      rows = simp to_z-of_z (sum_step c.args.list.now c.args.live.now c.loop-i.i c.index-list-i.result r _ c.rows_given.result c.sum_on-sum.result _
          c.loop-i-test.true within c.index-list-i.is refl parts.1 given sum c.loop-i.invariant.rows);
    }
