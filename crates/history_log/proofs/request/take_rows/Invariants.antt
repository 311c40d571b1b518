use Rattle.std.proofs.Common.{◌≤◌, ◌-◌, length}
use Rattle.history_log.proofs.RequestSteps.{RowsFrom}
use Rattle.history_log.proofs.request.take_rows.Given as goal

abbrev pub invariant-rows : goal.invariant-rows
invariant-rows l = record {
  within : l.at ≤ length l.text;
  so_far : RowsFrom l.columns l.text l.place l.rows l.at;
}

abbrev pub decreases-rows : goal.decreases-rows
decreases-rows l = length l.text - l.at
