use Rattle.std.proofs.Common.{◌≡◌, ◌++◌, map, drop}
use Rattle.row_reading.specs.Wanted.{column_wanted, row_wanted}
use Rattle.row_reading.proofs.row.row_wanted.Given as goal

abbrev pub invariant-loop-column : goal.invariant-loop-column
invariant-loop-column l = l.wanted.items ++ map column_wanted (drop l.column-index l.columns) ≡ row_wanted l.columns
