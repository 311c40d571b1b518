use Rattle.std.proofs.Common.{◌≤◌, ◌-◌, length}
use Rattle.report.specs.Schema.{columns_at}
use Rattle.report.proofs.SchemaLemmas.{ColumnsFrom}
use Rattle.report.proofs.schema_line.take_columns.Given as goal

abbrev pub invariant-loop-list : goal.invariant-loop-list
invariant-loop-list l = record {
  within : l.at ≤ length l.line;
  so_far : ColumnsFrom l.line l.list.items l.at (columns_at l.line l.start);
}

abbrev pub decreases-loop-list : goal.decreases-loop-list
decreases-loop-list l = length l.line - l.at
