use Rattle.std.proofs.Common.{◌≡◌, ◌++◌, take}
use Rattle.std.specs.List.{flat_map}
use Rattle.std.specs.String.{string_bytes}
use Rattle.history_log.specs.Request.{next_path_text}
use Rattle.history_log.proofs.request.put_paths.Given as goal

abbrev pub invariant-loop-path : goal.invariant-loop-path
invariant-loop-path l = string_bytes l.out ≡ string_bytes l.fn.out ++ flat_map next_path_text (take l.path-index l.paths)
