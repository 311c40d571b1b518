use Rattle.std.proofs.Common.{◌≡◌, List, ◌++◌, map, drop}
use Rattle.fields.specs.declared.leaf.Leaf.{Leaf}
use Rattle.fields.specs.Flat.{leaf_of}
use Rattle.fields.specs.Kept.{kept}
use Rattle.fields.specs.Record.{AreReadAs}
use Rattle.fields.proofs.leaf.kept_of.Given as goal

abbrev pub invariant-loop-place : goal.invariant-loop-place
invariant-loop-place l = record {
  before : List Leaf;
  read : AreReadAs l.found.items before;
  so_far : before ++ kept (map leaf_of (drop l.place l.all)) ≡ kept (map leaf_of l.all);
}
