-- The snapshot that the members of an object are, or the first check that refuses them.
use Rattle.std.specs.Prelude.{ℕ, ℤ, int_lt, List, [], ◌∷◌, ◌++◌, Option, Some, None, Result, Ok, Err, codes}
use Rattle.std.specs.Prelude.{if◌then◌else◌}
use Rattle.words.specs.Reading.{◌>>=◌, map_refusal}
use Rattle.serde_json.specs.Data.{Data, Items, no_items, item, Members}
use Rattle.serde_json.specs.Find.{get_member, as_object}
use Rattle.json_members.specs.declared.rows.Version.{Version}
use Rattle.json_members.specs.Members.{without}
use Rattle.json_members.specs.Rows.{Lookup, checked_by}
use Rattle.json_members.specs.Values.{number_in, number_since, number_or_0, text_in}
use Rattle.snapshot_entries.specs.declared.snapshot.Snapshot.{Snapshot}
use Rattle.snapshot_entries.specs.declared.refusal.SnapshotRefusal.{SnapshotRefusal}
use Rattle.snapshot_entries.specs.declared.refusal.SnapshotRefusal.TheVariants.{Wrong, NoManifestList}
use Rattle.snapshot_entries.specs.List.{limits_checked}
use Rattle.snapshot_entries.specs.Members.{first_rows, other_rows, known}
use Rattle.snapshot_entries.specs.Refusal.{of_fault}

-- ---- one snapshot, by what is found in its object

-- the sequence number is at most the table's last one
abbrev pub passed : ℤ → ℤ → Result (Unit {0}) SnapshotRefusal
passed last sequence = if int_lt last sequence then Err (Wrong (codes "sequence-number")) else Ok tt

-- the path of the manifest list of the snapshot with this id
abbrev pub path_or_none : ℤ → Option (List ℕ) → Result (List ℕ) SnapshotRefusal
path_or_none id None = Err (NoManifestList id)
path_or_none id (Some path) = Ok path

abbrev pub path_in : ℤ → Option Data → Result (List ℕ) SnapshotRefusal
path_in id found = path_or_none id (text_in found)

-- that path, if no check refuses the snapshot
abbrev pub path_by : Version → ℤ → Lookup → Result (List ℕ) SnapshotRefusal
path_by version last found = do
  _ ← map_refusal of_fault (checked_by found (first_rows version))
  _ ← passed last (number_or_0 (found (codes "sequence-number")))
  _ ← map_refusal of_fault (checked_by found (other_rows version))
  path_in (number_or_0 (found (codes "snapshot-id"))) (found (codes "manifest-list"))

-- the record of what is found, and of what is left
abbrev pub snapshot_with : Version → Lookup → Members → List ℕ → Snapshot
snapshot_with version found left path = record {
  id = number_or_0 (found (codes "snapshot-id"));
  parent = number_in (found (codes "parent-snapshot-id"));
  sequence = number_or_0 (found (codes "sequence-number"));
  time = number_or_0 (found (codes "timestamp-ms"));
  list = path;
  schema_id = number_in (found (codes "schema-id"));
  first_row_id = number_since version (found (codes "first-row-id"));
  added_rows = number_since version (found (codes "added-rows"));
  rest = left;
}

abbrev pub snapshot_by : Version → ℤ → Lookup → Members → Result Snapshot SnapshotRefusal
snapshot_by version last found left =
    path_by version last found >>= (λ path. Ok (snapshot_with version found left path))

-- the same of an object
abbrev pub of_members : Version → Members → List ℕ → Snapshot
of_members version members path =
    snapshot_with version (λ name. get_member name members) (without (known version) members) path

abbrev pub snapshot_of : Version → ℤ → Members → Result Snapshot SnapshotRefusal
snapshot_of version last members =
    snapshot_by version last (λ name. get_member name members) (without (known version) members)

-- ---- snapshots

abbrev pub object_or_wrong : Version → ℤ → Option Members → Result Snapshot SnapshotRefusal
object_or_wrong version last None = Err (Wrong (codes "snapshots"))
object_or_wrong version last (Some members) = snapshot_of version last members

abbrev pub snapshot_at : Version → ℤ → Data → Result Snapshot SnapshotRefusal
snapshot_at version last value = object_or_wrong version last (as_object value)

-- the snapshots after those that were seen
abbrev pub snapshots_from : Version → ℤ → List Snapshot → Items → Result (List Snapshot) SnapshotRefusal
snapshots_from version last seen no_items = Ok seen
snapshots_from version last seen (item value items) =
    snapshot_at version last value >>= (λ snapshot. snapshots_from version last (seen ++ snapshot ∷ []) items)

-- the snapshots of a list within its limits
abbrev pub snapshots_in : Version → ℤ → Items → Result (List Snapshot) SnapshotRefusal
snapshots_in version last items = limits_checked items >>= (λ _. snapshots_from version last [] items)
