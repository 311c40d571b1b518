use Rattle.std.proofs.Common.{◌≡◌, length}
use Rattle.objects.specs.Stream.{all, all_behind}
use Rattle.objects.specs.Left.{left_of, IsReady}
use Rattle.objects.proofs.collected.collect.Given as goal

abbrev pub invariant-loop-list : goal.invariant-loop-list
invariant-loop-list g l = record {
  ready : IsReady g.R.Object.right g.R.Object.fits l.objects.reader l.objects.rest l.objects.slot;
  same : l.objects.reader ≡ l.fn.objects.reader;
  whole : l.objects.rest.walk.whole ≡ l.fn.objects.rest.walk.whole;
  so_far : all_behind l.list (left_of (g.R.Object.at l.fn.objects.reader) g.R.Object.rest l.objects.rest)
      ≡ all (left_of (g.R.Object.at l.fn.objects.reader) g.R.Object.rest l.fn.objects.rest);
}

abbrev pub decreases-loop-list : goal.decreases-loop-list
decreases-loop-list g l = length (left_of (g.R.Object.at l.fn.objects.reader) g.R.Object.rest l.objects.rest).objects
