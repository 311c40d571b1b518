use Rattle.std.proofs.Common.{◌≡◌, map, take}
use Rattle.row_writing.specs.Writing.{column_field}
use Rattle.row_writing.proofs.file_schema.column_fields.Given as goal

abbrev pub invariant-loop-column : goal.invariant-loop-column
invariant-loop-column l = l.fields.items ≡ map (column_field l.plain) (take l.column-index l.columns)
