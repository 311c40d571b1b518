-- The entries of a history, taken one by one into a list.
use Rattle.std.specs.Prelude.{[], ◌∷◌, ◌++◌}
use Rattle.history_types.specs.declared.entry.Entry.{Entry}
use Rattle.history_types.specs.declared.state.State.{State}
use Rattle.report.specs.declared.whole.History.{History}

-- without entries
abbrev pub history_begun : State → History
history_begun start = record { start = start; entries = [] }

-- with one more
abbrev pub history_more : History → Entry → History
history_more history entry = record { start = history.start; entries = history.entries ++ entry ∷ [] }
