use Rattle.std.proofs.Common.{◌≡◌, ◌≤◌, ◌++◌, map, drop}
use Rattle.fields.specs.Flat.{leaf_of}
use Rattle.fields.specs.Kept.{slots}
use Rattle.fields.proofs.leaf.slots_of.Given as goal

abbrev pub invariant-loop-place : goal.invariant-loop-place
invariant-loop-place l = record {
  few : l.many ≤ l.place;
  so_far : l.found.items ++ slots l.many (map leaf_of (drop l.place l.all)) ≡ slots 0 (map leaf_of l.all);
}
