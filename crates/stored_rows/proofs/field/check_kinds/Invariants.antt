use Rattle.std.proofs.Common.{◌≡◌, drop}
use Rattle.stored_rows.specs.Field.{check_kinds}
use Rattle.stored_rows.proofs.field.check_kinds.Given as goal

abbrev pub invariant-loop-column : goal.invariant-loop-column
invariant-loop-column l = check_kinds l.fields (drop l.column-index l.columns) ≡ check_kinds l.fields l.columns
