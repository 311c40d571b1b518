use Rattle.std.proofs.Common.{Bool, ℕ, [], ◌∷◌, ◌++◌, ap, sym, ◌∙◌, arith}
use Rattle.fields.specs.declared.leaf.LentLeaf.{LentLeaf}
use Rattle.fields.specs.Flat.{leaf_of}
use Rattle.std.specs.declared.option.Option.{Option}
use Rattle.fields.specs.Kept.{is_bare, slot_of, behind_slot}
use Rattle.fields.proofs.FirstLemmas.{behind_few, slots_step, slots_done}
use Rattle.fields.proofs.leaf.slots_of.Goals as goal

pub loop-place-preserved : goal.loop-place-preserved
loop-place-preserved c =
    let bare = c.is_empty-empty.ensures ∙ ap (λ (l : LentLeaf). is_bare (leaf_of l)) (sym c.index-all-place.is) in
    let slot = c.slot_of.ensures ∙ ap (λ (b : Bool). slot_of b c.loop-place.many) bare in
    let more = c.in_ok-push.ensures.items ∙ ap (λ (s : Option ℕ). c.loop-place.found.items ++ s ∷ []) slot in
    let next = c.behind_slot-many.ensures ∙ ap (λ (b : Bool). behind_slot b c.loop-place.many) bare in
    record {
      few = omega (arith, c.behind_slot-many.ensures, behind_few c.is_empty-empty.result c.loop-place.many, c.loop-place.invariant.few);
      so_far = slots_step c.args.all.now c.loop-place.many c.behind_slot-many.result c.loop-place.place c.index-all-place.result c.loop-place.found.items c.push.new.self.items _ c.loop-place-test.true c.index-all-place.is more next c.loop-place.invariant.so_far;
    }

pub returns : goal.returns
returns c = slots_done c.args.all.now c.loop-place.many c.loop-place.place c.loop-place.found.items _ c.loop-place-test.false c.loop-place.invariant.so_far
