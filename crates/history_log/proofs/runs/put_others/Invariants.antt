use Rattle.std.proofs.Common.{◌≡◌, ◌++◌, take}
use Rattle.std.specs.List.{flat_map}
use Rattle.std.specs.String.{string_bytes}
use Rattle.history_log.specs.Runs.{next_run_text}
use Rattle.history_log.proofs.runs.put_others.Given as goal

abbrev pub invariant-loop-run : goal.invariant-loop-run
invariant-loop-run l = string_bytes l.out ≡ string_bytes l.fn.out ++ flat_map next_run_text (take l.run-index l.runs)
