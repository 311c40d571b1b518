-- What a request asks of a table.
use Rattle.std.specs.Prelude.{ℤ, List, [], Option, Some}
use Rattle.row_types.specs.declared.cell.Cell.{Cell}
use Rattle.history_types.specs.declared.request.Request.{Request}
use Rattle.history_types.specs.declared.request.Request.TheVariants.{Append, Compact, Upgrade}
use Rattle.history_types.specs.declared.state.State.{State}

-- the rows that a request adds, the ids whose rows get these cells, and the ids whose rows leave the table
pub record Asked : Type 0 where
  pub adds : List (List Cell)
  pub changes : List (ℤ × List Cell)
  pub removes : List ℤ

-- a compaction and an upgrade ask for no row to differ
abbrev pub nothing : Asked
nothing = record { adds = []; changes = []; removes = [] }

-- what the request asks in this state; None if it can't be done
abbrev pub asked : Request → State → Option Asked
asked (Append rows) state = Some (record { adds = rows; changes = []; removes = [] })
asked (Compact paths) state = Some nothing
asked Upgrade state = Some nothing
