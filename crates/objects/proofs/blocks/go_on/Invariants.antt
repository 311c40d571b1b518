use Rattle.std.proofs.Common.{◌≡◌, length}
use Rattle.objects.specs.Left.{left_of, IsWithin}
use Rattle.objects.proofs.blocks.go_on.Given as goal

abbrev pub invariant-loop-rest : goal.invariant-loop-rest
invariant-loop-rest g l = record {
  within : IsWithin l.rest;
  whole : l.rest.walk.whole ≡ l.initial.rest.walk.whole;
  same : left_of (g.R.Object.at l.reader) g.R.Object.rest l.rest
      ≡ left_of (g.R.Object.at l.reader) g.R.Object.rest l.initial.rest;
}

abbrev pub decreases-loop-rest : goal.decreases-loop-rest
decreases-loop-rest g l = length l.rest.walk.left
