use Rattle.std.proofs.Common.{◌≡◌, drop}
use Rattle.stored_rows.specs.Field.{find_from}
use Rattle.stored_rows.proofs.field.find.Given as goal

abbrev pub invariant-loop-place : goal.invariant-loop-place
invariant-loop-place l = find_from l.place l.id (drop l.place l.fields) ≡ find_from 0 l.id l.fields
