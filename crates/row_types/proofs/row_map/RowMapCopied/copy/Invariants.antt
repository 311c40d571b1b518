use Rattle.std.proofs.Common.{◌≡◌, ◌++◌}
use Rattle.row_types.specs.RowMap.{IsRising}
use Rattle.row_types.proofs.row_map.RowMapCopied.copy.Given as goal

abbrev pub invariant-loop-id : goal.invariant-loop-id
invariant-loop-id l = record { so_far : l.rows.entries ++ l.id-iterator ≡ l.self; rising : IsRising l.self }
