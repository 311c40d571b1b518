-- The first row ids of a manifest's files. Iceberg spec, "First Row ID Inheritance".
use Rattle.std.specs.Prelude.{◌^◌, ℤ, pos, ◌+ℤ◌, ◌≤ℤ◌, int_lt, ⊤, Bool, false, ◌&&◌, List, [], ◌∷◌, ◌++◌}
use Rattle.std.specs.Prelude.{Option, Some, None, is_some, not, Result, Ok, Err, if◌then◌else◌}
use Rattle.file_types.specs.declared.file_entry.FileEntry.{FileEntry}
use Rattle.lineage_inherit.specs.declared.refusal.InheritRefusal.{InheritRefusal}
use Rattle.lineage_inherit.specs.declared.refusal.InheritRefusal.TheVariants.{IdsSpent}
use Rattle.lineage_inherit.specs.Live.{is_live}

-- ---- one entry

-- the rows that an entry takes from its manifest's first row id: those of a live file without an id of its own
abbrev pub rows_taken : FileEntry → ℤ
rows_taken entry = if is_live entry && not (is_some entry.first_row_id) then entry.count else pos 0

-- the rows that these entries take
abbrev pub rows_taken_by : List FileEntry → ℤ
rows_taken_by [] = pos 0
rows_taken_by (entry ∷ entries) = rows_taken entry +ℤ rows_taken_by entries

-- the id that stands so many rows after the first, if there is a first
abbrev pub id_after : Option ℤ → ℤ → Option ℤ
id_after None rows = None
id_after (Some first) rows = Some (first +ℤ rows)

-- an entry's own id, or else the other one
abbrev pub own_or : Option ℤ → Option ℤ → Option ℤ
own_or (Some own) other = Some own
own_or None other = other

-- the first row id of a live entry: its own, or the manifest's and the rows that the entries before it take
abbrev pub inherited_first_row_id : Option ℤ → List FileEntry → FileEntry → Option ℤ
inherited_first_row_id first before entry = own_or entry.first_row_id (id_after first (rows_taken_by before))

-- an entry that isn't live has at most an id of its own
abbrev pub first_row_id_of : Option ℤ → List FileEntry → FileEntry → Option ℤ
first_row_id_of first before entry =
    if is_live entry then inherited_first_row_id first before entry else entry.first_row_id

-- ---- entries

-- the first row ids of the entries behind those before them
abbrev pub firsts_behind : Option ℤ → List FileEntry → List FileEntry → List (Option ℤ)
firsts_behind first before [] = []
firsts_behind first before (entry ∷ entries) =
    first_row_id_of first before entry ∷ firsts_behind first (before ++ entry ∷ []) entries

-- the greatest id is 2^63 - 1, and no row's id passes it
abbrev pub is_spent : ℤ → Option ℤ → Bool
is_spent count None = false
is_spent count (Some first) = not (int_lt (first +ℤ count) (pos (2 ^ 63)))

-- the first live entry whose rows pass it: its first id, and its number of rows
abbrev pub spent_at : Option ℤ → ℤ → Option (ℤ × ℤ)
spent_at None count = None
spent_at (Some first) count = Some (first, count)

abbrev pub first_spent : Option ℤ → List FileEntry → List FileEntry → Option (ℤ × ℤ)
first_spent first before [] = None
first_spent first before (entry ∷ entries) =
    if is_live entry && is_spent entry.count (first_row_id_of first before entry)
    then spent_at (first_row_id_of first before entry) entry.count
    else first_spent first (before ++ entry ∷ []) entries

-- the first row ids of all entries, if no row's id passes the greatest one
abbrev pub unless_spent : List (Option ℤ) → Option (ℤ × ℤ) → Result (List (Option ℤ)) InheritRefusal
unless_spent firsts None = Ok firsts
unless_spent firsts (Some spent) = Err (IdsSpent spent.0 spent.1)

abbrev pub first_ids : Option ℤ → List FileEntry → Result (List (Option ℤ)) InheritRefusal
first_ids first entries = unless_spent (firsts_behind first [] entries) (first_spent first [] entries)

-- no entry has a count below 0
abbrev pub AreCounted : List FileEntry → Type 0
AreCounted [] = ⊤
AreCounted (entry ∷ entries) = (pos 0 ≤ℤ entry.count) × AreCounted entries
