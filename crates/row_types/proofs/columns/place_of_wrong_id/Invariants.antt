use Rattle.std.proofs.Common.{◌≡◌, [], take, drop}
use Rattle.row_types.specs.Columns.{first_fault, has_wrong_id}
use Rattle.row_types.proofs.columns.place_of_wrong_id.Given as goal

abbrev pub invariant-loop-place : goal.invariant-loop-place
invariant-loop-place l = first_fault has_wrong_id [] l.columns ≡ first_fault has_wrong_id (take l.place l.columns) (drop l.place l.columns)
