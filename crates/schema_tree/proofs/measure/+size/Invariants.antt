use Rattle.std.proofs.Common.{◌≡◌, drop}
use Rattle.schema_tree.specs.Measure.{size_of_fields, size_of_branches, left_of}
use Rattle.schema_tree.proofs.measure.+size.Given as goal

abbrev pub invariant-take_fields-loop-field : goal.invariant-take_fields-loop-field
invariant-take_fields-loop-field l = left_of l.left (size_of_fields (drop l.field-index l.field-items)) ≡ left_of l.initial.left (size_of_fields l.field-items)

abbrev pub invariant-take_branches-loop-branch : goal.invariant-take_branches-loop-branch
invariant-take_branches-loop-branch l = left_of l.left (size_of_branches (drop l.branch-index l.branch-items)) ≡ left_of l.initial.left (size_of_branches l.branch-items)
