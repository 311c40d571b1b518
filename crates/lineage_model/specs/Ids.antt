-- The ids that runs stand for.
use Rattle.std.specs.Prelude.{ℕ, zero, suc, ℤ, pos, negsuc, ◌+ℤ◌, int_lt, Bool, true, ◌&&◌, List, [], ◌∷◌}
use Rattle.std.specs.List.{flat_map}
use Rattle.history_types.specs.declared.entry.Run.{Run}

-- so many ids, each one above the one before it
unfoldable pub ids_from : ℤ → ℕ → List ℤ
ids_from first zero = []
ids_from first (suc count) = first ∷ ids_from (first +ℤ pos 1) count

-- a number of ids; there are none below 0
abbrev pub how_many : ℤ → ℕ
how_many (pos count) = count
how_many (negsuc count) = 0

-- the ids of a run: the first one, and those that follow it
abbrev pub ids_of_run : Run → List ℤ
ids_of_run run = ids_from run.first (how_many run.count)

-- the ids of runs, one run after the other
abbrev pub ids_of : List Run → List ℤ
ids_of runs = flat_map ids_of_run runs

-- each id is above the one before it
unfoldable pub is_rising : List ℤ → Bool
is_rising [] = true
is_rising (id ∷ []) = true
is_rising (id ∷ next ∷ ids) = int_lt id next && is_rising (next ∷ ids)
