use Rattle.std.proofs.Common.{◌≡◌, pos, ◌≤ℤ◌, ◌+ℤ◌, length, drop}
use Rattle.lineage_inherit.specs.Assignment.{AreNatural, assigned_rows, at_most_max}
use Rattle.lineage_inherit.proofs.assignment.sum_given.Given as goal

-- the rows so far, and those of the other manifests, are all
abbrev pub invariant-loop-i : goal.invariant-loop-i
invariant-loop-i l = record {
  together : length l.live ≡ length l.list;
  natural : AreNatural (drop l.i l.live);
  sum : pos 0 ≤ℤ l.sum;
  rows : at_most_max (l.sum +ℤ assigned_rows (drop l.i l.list) (drop l.i l.live)) ≡ at_most_max (assigned_rows l.list l.live);
}
