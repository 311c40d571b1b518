use Rattle.std.proofs.Common.{List, [], ◌∷◌, ◌++◌, refl, sym, subst}
use Rattle.fields.specs.declared.leaf.Leaf.{Leaf}
use Rattle.fields.specs.Flat.{leaf_of}
use Rattle.fields.specs.Kept.{kept}
use Rattle.fields.specs.Record.{AreReadAs}
use Rattle.fields.proofs.FirstLemmas.{kept_step, kept_done}
use Rattle.fields.proofs.AlikeLaws.{adds_read}
use Rattle.fields.proofs.leaf.kept_of.Goals as goal

pub loop-place-init : goal.loop-place-init
loop-place-init c = record {
  before = [];
  read = subst (λ (ls : List Leaf). AreReadAs ls []) (sym c.new-found.ensures.items) tt;
  so_far = refl;
}

pub loop-place-preserved : goal.loop-place-preserved
loop-place-preserved c =
    let next = kept (leaf_of c.index-all-place.result ∷ []) in
    record {
      before = c.loop-place.invariant.before ++ next;
      read = adds_read c.loop-place.found.items c.push_kept.new.found.items c.loop-place.invariant.before next c.loop-place.invariant.read c.in_ok-push_kept.ensures;
      so_far = kept_step c.args.all.now c.loop-place.place c.index-all-place.result c.loop-place.invariant.before (c.loop-place.invariant.before ++ next) _ c.loop-place-test.true c.index-all-place.is refl c.loop-place.invariant.so_far;
    }

pub returns : goal.returns
returns c = subst (AreReadAs c.loop-place.found.items) (kept_done c.args.all.now c.loop-place.place c.loop-place.invariant.before _ c.loop-place-test.false c.loop-place.invariant.so_far) c.loop-place.invariant.read
