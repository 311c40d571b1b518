use Rattle.std.proofs.Common.{◌≡◌, ◌+ℤ◌, ◌++◌, length, drop}
use Rattle.lineage_inherit.specs.Assignment.{AreNatural, assigned_rows, assigned_ids}
use Rattle.lineage_inherit.proofs.assignment.assign_in.Given as goal

-- the ids so far, and those of the other manifests, are all
abbrev pub invariant-loop-i : goal.invariant-loop-i
invariant-loop-i l = record {
  together : length l.live ≡ length l.list;
  natural : AreNatural (drop l.i l.live);
  rows : l.after +ℤ assigned_rows (drop l.i l.list) (drop l.i l.live) ≡ l.next +ℤ assigned_rows l.list l.live;
  ids : l.ids ++ assigned_ids l.after (drop l.i l.list) (drop l.i l.live) ≡ assigned_ids l.next l.list l.live;
}
