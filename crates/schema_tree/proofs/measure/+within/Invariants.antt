use Rattle.std.proofs.Common.{◌≡◌, drop, nat_le}
use Rattle.schema_tree.specs.Measure.{depth_of_fields, depth_of_branches}
use Rattle.schema_tree.proofs.measure.+within.Given as goal

abbrev pub invariant-are_fields_within-loop-field : goal.invariant-are_fields_within-loop-field
invariant-are_fields_within-loop-field l = nat_le (depth_of_fields (drop l.field-index l.field-items)) l.room ≡ nat_le (depth_of_fields l.field-items) l.room

abbrev pub invariant-are_branches_within-loop-branch : goal.invariant-are_branches_within-loop-branch
invariant-are_branches_within-loop-branch l = nat_le (depth_of_branches (drop l.branch-index l.branch-items)) l.room ≡ nat_le (depth_of_branches l.branch-items) l.room
