use Rattle.std.proofs.Common.{◌≡◌, ◌+◌, length}
use Rattle.row_reading.specs.Checking.{rows_read}
use Rattle.row_reading.specs.Checked.{rows_left, AreReady}
use Rattle.row_reading.proofs.RowByRow.{rows_behind}
use Rattle.row_reading.proofs.reading.each_row.Given as goal

abbrev pub invariant-loop-list : goal.invariant-loop-list
invariant-loop-list l = record {
  ready : AreReady l.rows.reader.layout l.rows.rest l.rows.slot;
  same : l.rows.reader.layout ≡ l.fn.rows.reader.layout;
  many : length l.list + length (rows_left l.fn.rows.reader.layout l.rows.rest).objects
      ≡ length (rows_left l.fn.rows.reader.layout l.fn.rows.rest).objects;
  so_far : rows_behind l.first l.sequence l.list (rows_left l.fn.rows.reader.layout l.rows.rest)
      ≡ rows_read l.first l.sequence (rows_left l.fn.rows.reader.layout l.fn.rows.rest);
}

abbrev pub decreases-loop-list : goal.decreases-loop-list
decreases-loop-list l = length (rows_left l.fn.rows.reader.layout l.rows.rest).objects
