use Rattle.std.proofs.Common.{◌≡◌, drop}
use Rattle.stored_rows.specs.Field.{check_missing}
use Rattle.stored_rows.proofs.field.check_missing.Given as goal

abbrev pub invariant-loop-column : goal.invariant-loop-column
invariant-loop-column l = check_missing l.fields (drop l.column-index l.columns) ≡ check_missing l.fields l.columns
