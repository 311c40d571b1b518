-- The live entries of a manifest. Iceberg spec, "Manifest Entry Fields".
use Rattle.std.specs.Prelude.{ℤ, pos, ◌+ℤ◌, Bool, true, false, List, [], ◌∷◌, if◌then◌else◌}
use Rattle.file_types.specs.declared.file_entry.FileEntry.{FileEntry}
use Rattle.file_types.specs.declared.file_entry.Status.{Status}
use Rattle.file_types.specs.declared.file_entry.Status.TheVariants.{Existing, Added, Deleted}
use Rattle.file_types.specs.declared.list_entry.ListEntry.{ListEntry}

-- a manifest, as its entry in the manifest list and its own entries
abbrev pub Manifest : Type 0
Manifest = ListEntry × List FileEntry

-- the file is in the table
abbrev pub is_kept : Status → Bool
is_kept Existing = true
is_kept Added = true
is_kept Deleted = false

abbrev pub is_live : FileEntry → Bool
is_live entry = is_kept entry.status

-- the rows of a live entry; one that isn't live has none
abbrev pub rows_of : FileEntry → ℤ
rows_of entry = if is_live entry then entry.count else pos 0

-- the rows of the live entries
abbrev pub rows_live : List FileEntry → ℤ
rows_live [] = pos 0
rows_live (entry ∷ entries) = rows_of entry +ℤ rows_live entries
