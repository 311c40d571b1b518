use Rattle.std.proofs.Common.{◌≡◌, [], drop}
use Rattle.row_reading.specs.Columns.{columns_from}
use Rattle.row_reading.proofs.columns.take_columns.Given as goal

abbrev pub invariant-loop-field : goal.invariant-loop-field
invariant-loop-field l = columns_from l.columns.items (drop l.field-index l.fields) ≡ columns_from [] l.fields
