use Rattle.std.proofs.Common.{◌≡◌, [], take, drop}
use Rattle.row_types.specs.Columns.{first_fault, has_wrong_name}
use Rattle.row_reading.proofs.columns.id_of_wrong_name.Given as goal

abbrev pub invariant-loop-place : goal.invariant-loop-place
invariant-loop-place l = first_fault has_wrong_name [] l.columns ≡ first_fault has_wrong_name (take l.place l.columns) (drop l.place l.columns)
