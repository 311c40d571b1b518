use Rattle.std.proofs.Common.{◌≤◌, ◌-◌, length}
use Rattle.history_log.proofs.RequestSteps.{PathsFrom}
use Rattle.history_log.proofs.request.take_paths.Given as goal

abbrev pub invariant-paths : goal.invariant-paths
invariant-paths l = record {
  within : l.at ≤ length l.text;
  so_far : PathsFrom l.text l.place l.paths l.at;
}

abbrev pub decreases-paths : goal.decreases-paths
decreases-paths l = length l.text - l.at
