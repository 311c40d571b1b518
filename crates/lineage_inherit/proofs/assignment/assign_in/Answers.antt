use Rattle.std.proofs.Common.{pos, get_or, length, ◌<◌, refl, sym, ◌∙◌, arith, rules, w64, SFits}
use Rattle.std.proofs.lemmas.Int.{to_z-of_z}
use Rattle.lineage_inherit.proofs.GivenSteps.{natural_on, assign_spent, rows_go_on, ids_step}
use Rattle.lineage_inherit.proofs.assignment.assign_in.Goals as goal

pub returns-in_default : goal.returns-in_default
returns-in_default c =
    let fits : SFits w64 (get_or c.args.live.now c.loop-i.i (pos 0)) = search rules in
    let next_fits : SFits w64 c.args.next = search rules in
    let within : c.loop-i.i < length c.args.live.now = omega arith in
    let ends = simp to_z-of_z at c.end_of.ensures in
    let spent = simp to_z-of_z at c.spent.ensures in
    let so_far = simp to_z-of_z at c.loop-i.invariant.rows in
    record {
      exact = rw spent (assign_spent c.args.list.now c.args.live.now c.loop-i.i c.index-list-i.result (get_or c.args.live.now c.loop-i.i (pos 0)) _ c.args.next
          c.loop-i-test.true within c.index-list-i.is refl (sym ends ∙ c.in_default.is) c.loop-i.invariant.natural so_far);
    }

pub loop-i-preserved : goal.loop-i-preserved
loop-i-preserved c =
    let fits : SFits w64 (get_or c.args.live.now c.loop-i.i (pos 0)) = search rules in
    let next_fits : SFits w64 c.args.next = search rules in
    let end_fits : SFits w64 c.in-Some.end = search rules in
    let within : c.loop-i.i < length c.args.live.now = omega arith in
    let ends = simp to_z-of_z at c.end_of.ensures in
    let rows = simp to_z-of_z at c.loop-i.invariant.rows in
    let ids = simp to_z-of_z at c.loop-i.invariant.ids in
    record {
      together = c.requires.together;
      natural = (natural_on c.args.live.now c.loop-i.i (get_or c.args.live.now c.loop-i.i (pos 0)) within refl c.loop-i.invariant.natural).1;
      rows = simp to_z-of_z (rows_go_on c.args.list.now c.args.live.now c.loop-i.i c.index-list-i.result (get_or c.args.live.now c.loop-i.i (pos 0)) _ c.in-Some.end _ c.loop-i-test.true within c.index-list-i.is refl (sym ends ∙ c.in-Some.is) rows);
      ids = simp to_z-of_z (ids_step c.args.list.now c.args.live.now c.loop-i.i c.index-list-i.result (get_or c.args.live.now c.loop-i.i (pos 0)) _ c.in-Some.end c.id_of.result _ c.push.new.self _
          c.loop-i-test.true within c.index-list-i.is refl (sym ends ∙ c.in-Some.is) c.id_of.ensures c.in_ok-push.ensures.ok ids);
    }
