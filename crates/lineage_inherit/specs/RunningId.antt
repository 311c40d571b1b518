-- First row ids by a running number: the next id.
use Rattle.std.specs.Prelude.{◌^◌, ℤ, pos, ◌+ℤ◌, int_lt, List, [], ◌∷◌, ◌++◌}
use Rattle.std.specs.Prelude.{Option, Some, None, Result, Ok, Err, if◌then◌else◌}
use Rattle.words.specs.Reading.{◌>>=◌, map_value}
use Rattle.file_types.specs.declared.file_entry.FileEntry.{FileEntry}
use Rattle.lineage_inherit.specs.declared.refusal.InheritRefusal.{InheritRefusal}
use Rattle.lineage_inherit.specs.declared.refusal.InheritRefusal.TheVariants.{IdsSpent}
use Rattle.lineage_inherit.specs.Live.{is_live}

-- the id behind so many rows, if they don't pass the greatest id
abbrev pub id_behind : Option ℤ → ℤ → Result (Option ℤ) InheritRefusal
id_behind None count = Ok None
id_behind (Some first) count =
    if int_lt (first +ℤ count) (pos (2 ^ 63)) then Ok (Some (first +ℤ count)) else Err (IdsSpent first count)

-- the first id of a live entry, and the next id behind it: an entry with an id of its own takes none
abbrev pub live_and_next : Option ℤ → ℤ → Option ℤ → Result (Option ℤ × Option ℤ) InheritRefusal
live_and_next next count (Some own) = id_behind (Some own) count >>= λ _. Ok (Some own, next)
live_and_next next count None = id_behind next count >>= λ after. Ok (next, after)

-- the first id of an entry, and the next id behind it
abbrev pub first_and_next : Option ℤ → FileEntry → Result (Option ℤ × Option ℤ) InheritRefusal
first_and_next next entry =
    if is_live entry then live_and_next next entry.count entry.first_row_id else Ok (entry.first_row_id, next)

-- the first ids of entries, from the next id on
abbrev pub firsts_from : Option ℤ → List FileEntry → Result (List (Option ℤ)) InheritRefusal
firsts_from next [] = Ok []
firsts_from next (entry ∷ entries) =
    first_and_next next entry >>= λ (pair : Option ℤ × Option ℤ).
    map_value (λ (firsts : List (Option ℤ)). pair.0 ∷ firsts) (firsts_from pair.1 entries)

-- the first ids that were found, and those of the other entries
abbrev pub all_firsts : List (Option ℤ) → Option ℤ → List FileEntry → Result (List (Option ℤ)) InheritRefusal
all_firsts found next entries = map_value (λ (firsts : List (Option ℤ)). found ++ firsts) (firsts_from next entries)
