use Rattle.std.proofs.Common.{◌≡◌, map, take}
use Rattle.serde_json.specs.View.{view}
use Rattle.schema_columns.specs.Printing.{column_value}
use Rattle.schema_columns.proofs.printing.column_values.Given as goal

-- the values so far
abbrev pub invariant-loop-column : goal.invariant-loop-column
invariant-loop-column l = map view l.values.items ≡ map column_value (take l.column-index l.columns)
