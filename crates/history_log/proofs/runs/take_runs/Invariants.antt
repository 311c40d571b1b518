use Rattle.std.proofs.Common.{◌≤◌, ◌-◌, length}
use Rattle.history_types.specs.Fits.{AreRuns}
use Rattle.history_log.specs.Runs.{runs_at}
use Rattle.history_log.proofs.RunsLemmas.{RunsFrom}
use Rattle.history_log.proofs.runs.take_runs.Given as goal

abbrev pub invariant-loop-runs : goal.invariant-loop-runs
invariant-loop-runs l = record {
  start : l.place ≤ l.at;
  within : l.at ≤ length l.text;
  fits : AreRuns l.runs;
  so_far : RunsFrom l.text l.runs l.at (runs_at l.text l.place);
}

abbrev pub decreases-loop-runs : goal.decreases-loop-runs
decreases-loop-runs l = length l.text - l.at
