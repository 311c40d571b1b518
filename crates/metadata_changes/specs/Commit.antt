-- The metadata after a commit with a snapshot.
use Rattle.std.specs.Prelude.{ℕ, ℤ, List, [], ◌∷◌, ◌++◌, Option, Some, codes}
use Rattle.serde_json.specs.Data.{Data, array, object, Items, Members}
use Rattle.serde_json.specs.Find.{get_member}
use Rattle.json_members.specs.Form.{items_in}
use Rattle.json_members.specs.Members.{Field, with_fields, without}
use Rattle.snapshot_entries.specs.declared.snapshot.Snapshot.{Snapshot}
use Rattle.metadata_reading.specs.declared.meta.TableMeta.{TableMeta}
use Rattle.metadata_changes.specs.Logs.{with_last, members_in, snapshot_entry, metadata_entry, with_main}

-- the names of the carried members that a commit changes
abbrev pub touched : List (List ℕ)
touched = codes "snapshot-log" ∷ codes "metadata-log" ∷ codes "refs" ∷ []

-- these members, as a commit writes them
abbrev pub fields_of : Items → Items → Members → List Field
fields_of snapshot_log metadata_log refs =
    (codes "snapshot-log", Some (array snapshot_log))
    ∷ (codes "metadata-log", Some (array metadata_log))
    ∷ (codes "refs", Some (object refs))
    ∷ []

-- the list at the name, with one entry last
abbrev pub log_with : List ℕ → Members → Data → Items
log_with name rest entry = with_last (items_in (get_member name rest)) entry

-- the members that the commit changes; `old`: when the old metadata was made, `path`: its file
abbrev pub changed_fields : Members → List ℕ → ℤ → ℤ → ℤ → List Field
changed_fields rest path old id time =
    fields_of (log_with (codes "snapshot-log") rest (snapshot_entry id time))
    (log_with (codes "metadata-log") rest (metadata_entry path old))
    (with_main id (members_in (get_member (codes "refs") rest)))

-- the carried members after the commit
abbrev pub changed_rest : Members → List ℕ → ℤ → ℤ → ℤ → Members
changed_rest rest path old id time = with_fields (changed_fields rest path old id time) (without touched rest)

-- the metadata after a commit with a snapshot; `path`: the file of the old metadata
abbrev pub with_snapshot : TableMeta → List ℕ → Snapshot → Option ℤ → TableMeta
with_snapshot m path s next = record m {
  last_sequence = s.sequence;
  last_updated = s.time;
  next_row_id = next;
  current = Some s.id;
  snapshots = m.snapshots ++ s ∷ [];
  rest = changed_rest m.rest path m.last_updated s.id s.time;
}
