use Rattle.std.proofs.Common.{◌≡◌, length}
use Rattle.words.specs.Reading.{outcome}
use Rattle.objects.specs.Stream.{all}
use Rattle.objects.specs.Left.{left_of, IsReady}
use Rattle.objects.proofs.blocks.Objects.check.Given as goal

abbrev pub invariant-loop : goal.invariant-loop
invariant-loop g l = record {
  ready : IsReady g.R.Object.right g.R.Object.fits l.self.reader l.self.rest l.self.slot;
  same : l.self.reader ≡ l.fn.self.reader;
  slot : l.self.slot ≡ l.fn.self.slot;
  whole : l.self.rest.walk.whole ≡ l.fn.self.rest.walk.whole;
  so_far : outcome (all (left_of (g.R.Object.at l.fn.self.reader) g.R.Object.rest l.self.rest))
      ≡ outcome (all (left_of (g.R.Object.at l.fn.self.reader) g.R.Object.rest l.fn.self.rest));
}

abbrev pub decreases-loop : goal.decreases-loop
decreases-loop g l = length (left_of (g.R.Object.at l.fn.self.reader) g.R.Object.rest l.self.rest).objects
