-- What was read so far of a report.
use Rattle.std.specs.Prelude.{List}
use Rattle.row_types.specs.declared.column.Column.{Column}
use Rattle.report.specs.declared.whole.Report.{Report}

pub data Stage : Type 0 where
  -- no line
  Nothing : Stage
  -- the columns
  Schema : List Column → Stage
  -- the columns, the state at the start as far as its rows were read, and entries
  Body : Report → Stage
  -- the whole report, perhaps with replies behind it
  Ended : Report → Stage
