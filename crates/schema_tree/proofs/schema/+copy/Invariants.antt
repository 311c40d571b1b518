use Rattle.std.proofs.Common.{◌≡◌, take}
use Rattle.schema_tree.proofs.schema.+copy.Given as goal

abbrev pub invariant-copy_branches-loop-branch : goal.invariant-copy_branches-loop-branch
invariant-copy_branches-loop-branch l = l.copies.items ≡ take l.branch-index l.branch-items
