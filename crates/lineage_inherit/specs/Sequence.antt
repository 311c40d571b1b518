-- The data sequence numbers of a manifest's files. Iceberg spec, "Sequence Number Inheritance".
use Rattle.std.specs.Prelude.{ℕ, ℤ, pos, Bool, true, false, not, ◌&&◌, ◌||◌, List, [], ◌∷◌, ◌++◌, map}
use Rattle.std.specs.Prelude.{Option, Some, None, is_some, unwrap_or, Result, Ok, Err, if◌then◌else◌}
use Rattle.std.specs.Ordering.{int_eq}
use Rattle.file_types.specs.declared.file_entry.FileEntry.{FileEntry}
use Rattle.file_types.specs.declared.file_entry.Status.{Status}
use Rattle.file_types.specs.declared.file_entry.Status.TheVariants.{Added}
use Rattle.file_types.specs.declared.list_entry.ListEntry.{ListEntry}
use Rattle.lineage_inherit.specs.declared.refusal.InheritRefusal.{InheritRefusal}
use Rattle.lineage_inherit.specs.declared.refusal.InheritRefusal.TheVariants.{NullSequence}
use Rattle.lineage_inherit.specs.Live.{is_live}

-- the data sequence number of a live entry: its own, or its manifest's
abbrev pub inherited_sequence : ListEntry → FileEntry → ℤ
inherited_sequence manifest entry = unwrap_or entry.sequence manifest.sequence

-- the status is that of a file that the manifest's snapshot added
abbrev pub is_added : Status → Bool
is_added Added = true
is_added _ = false

-- a live entry has a number of its own, or it was added, or it is of a table without sequence numbers
abbrev pub has_sequence : ListEntry → FileEntry → Bool
has_sequence manifest entry =
    is_some entry.sequence || (is_added entry.status || int_eq manifest.sequence (pos 0))

-- the number of an entry, if it is live
abbrev pub sequence_if_live : ListEntry → FileEntry → Option ℤ
sequence_if_live manifest entry = if is_live entry then Some (inherited_sequence manifest entry) else None

-- a live entry without a number
abbrev pub lacks_sequence : ListEntry → FileEntry → Bool
lacks_sequence manifest entry = is_live entry && not (has_sequence manifest entry)

-- the path of the first one
abbrev pub first_without : ListEntry → List FileEntry → Option (List ℕ)
first_without manifest [] = None
first_without manifest (entry ∷ entries) =
    if lacks_sequence manifest entry then Some entry.path else first_without manifest entries

-- the numbers of all entries, if none of the live ones lacks its number
abbrev pub unless_without : List (Option ℤ) → Option (List ℕ) → Result (List (Option ℤ)) InheritRefusal
unless_without numbers None = Ok numbers
unless_without numbers (Some path) = Err (NullSequence path)

abbrev pub sequences : ListEntry → List FileEntry → Result (List (Option ℤ)) InheritRefusal
sequences manifest entries =
    unless_without (map (sequence_if_live manifest) entries) (first_without manifest entries)

-- ---- entry by entry

-- the number of one entry, or the refusal of a live one without a number
abbrev pub sequence_of : ListEntry → FileEntry → Result (Option ℤ) InheritRefusal
sequence_of manifest entry =
    if lacks_sequence manifest entry then Err (NullSequence entry.path) else Ok (sequence_if_live manifest entry)

-- the numbers that were found, and those of the other entries
abbrev pub sequences_from : List (Option ℤ) → ListEntry → List FileEntry → Result (List (Option ℤ)) InheritRefusal
sequences_from found manifest entries =
    unless_without (found ++ map (sequence_if_live manifest) entries) (first_without manifest entries)
