-- The live files of manifests: what stands between the entries of manifests and the rows of a table.
use Rattle.std.specs.Prelude.{ℕ, ℤ, ◌+ℤ◌, Bool, List, [], ◌∷◌, ◌++◌, Option, Some, if◌then◌else◌}
use Rattle.std.specs.List.{flat_map}
use Rattle.file_types.specs.declared.file_entry.FileEntry.{FileEntry}
use Rattle.file_types.specs.declared.file_entry.Status.{Status}
use Rattle.file_types.specs.declared.file_entry.Status.TheVariants.{Existing, Deleted}
use Rattle.file_types.specs.declared.list_entry.ListEntry.{ListEntry}
use Rattle.lineage_inherit.specs.FirstRowId.{inherited_first_row_id}
use Rattle.lineage_inherit.specs.Live.{Manifest, is_live}
use Rattle.lineage_inherit.specs.Sequence.{inherited_sequence}

-- a file of the table, with what its entry inherits
pub record LiveFile : Type 0 where
  pub path : List ℕ
  pub sequence : ℤ
  pub first : Option ℤ
  pub count : ℤ

-- the file of a live entry behind those before it
abbrev pub live_file : ListEntry → List FileEntry → FileEntry → LiveFile
live_file manifest before entry = record {
  path = entry.path;
  sequence = inherited_sequence manifest entry;
  first = inherited_first_row_id manifest.first_row_id before entry;
  count = entry.count;
}

-- the files of the live entries behind those before them, in order
unfoldable pub files_behind : ListEntry → List FileEntry → List FileEntry → List LiveFile
files_behind manifest before [] = []
files_behind manifest before (entry ∷ entries) =
    if is_live entry
    then live_file manifest before entry ∷ files_behind manifest (before ++ entry ∷ []) entries
    else files_behind manifest (before ++ entry ∷ []) entries

-- the files of a table, in table order
abbrev pub live_files : List Manifest → List LiveFile
live_files manifests = flat_map (λ (manifest : Manifest). files_behind manifest.0 [] manifest.1) manifests

-- the files, with this first id on the first of them, and on each other one the id behind the rows of those before it
unfoldable pub numbered : ℤ → List LiveFile → List LiveFile
numbered next [] = []
numbered next (file ∷ files) = record file { first = Some next } ∷ numbered (next +ℤ file.count) files

-- a live entry of a rewritten manifest, with what it inherited written out
abbrev pub status_of : Bool → Status
status_of removed = if removed then Deleted else Existing

abbrev pub rewritten_entry : ListEntry → List FileEntry → Bool → FileEntry → FileEntry
rewritten_entry manifest before removed entry = record entry {
  status = status_of removed;
  sequence = Some (inherited_sequence manifest entry);
  first_row_id = inherited_first_row_id manifest.first_row_id before entry;
}
