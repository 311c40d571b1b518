-- What is printed of snapshots has no floats, and nests at most 125 deep.
use Rattle.std.proofs.Common.{ℤ, List, [], ◌∷◌, map}
use Rattle.serde_json.specs.View.{items_of}
use Rattle.json_members.specs.declared.rows.Version.{Version}
use Rattle.json_members.specs.Members.{with_fields}
use Rattle.json_members.specs.Plain.{IsPlain, ItemsArePlain, FieldsArePlain}
use Rattle.json_members.specs.PlainLaws.{plain_fields, object_plain, item_plain, none_plain, whole_plain, string_plain}
use Rattle.json_members.specs.PlainLaws.{number_plain}
use Rattle.snapshot_entries.specs.declared.snapshot.Snapshot.{Snapshot}
use Rattle.snapshot_entries.specs.Printing.{snapshot_fields, snapshot_value}
use Rattle.snapshot_entries.specs.Snapshot.{IsSnapshot, AreSnapshots}

fields_plain : (s : Snapshot) → FieldsArePlain 124 (snapshot_fields s)
fields_plain s = (
  whole_plain 124 s.id,
  (
    whole_plain 124 s.time,
    (
      whole_plain 124 s.sequence,
      (
        number_plain 124 s.parent,
        (
          number_plain 124 s.schema_id,
          (number_plain 124 s.first_row_id, (number_plain 124 s.added_rows, (string_plain 124 s.list, tt))),
        ),
      ),
    ),
  ),
)

-- the object of a snapshot
pub snapshot_plain : (version : Version) (last : ℤ) (s : Snapshot) → IsSnapshot version last s
    → IsPlain 125 (snapshot_value s)
snapshot_plain version last s h =
    object_plain 124 (with_fields (snapshot_fields s) s.rest)
    (plain_fields 124 (snapshot_fields s) s.rest (fields_plain s) h.plain)

-- the objects of snapshots
pub snapshots_plain : (version : Version) (last : ℤ) (snapshots : List Snapshot) → AreSnapshots version last snapshots
    → ItemsArePlain 125 (items_of (map snapshot_value snapshots))
snapshots_plain version last [] h = none_plain 125
snapshots_plain version last (s ∷ snapshots) h =
    item_plain 125 (snapshot_value s) (items_of (map snapshot_value snapshots)) (snapshot_plain version last s h.0)
    (snapshots_plain version last snapshots h.1)
