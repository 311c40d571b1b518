use Rattle.std.proofs.Common.{◌≡◌, drop}
use Rattle.fields.specs.Wanted.{has_inner}
use Rattle.fields.proofs.wanted.has_inner.Given as goal

abbrev pub invariant-loop-w : goal.invariant-loop-w
invariant-loop-w l = has_inner l.id (drop l.w-index l.wanted) ≡ has_inner l.id l.wanted
