-- The JSON object of a snapshot: the members that have fields, beside those that are carried.
use Rattle.std.specs.Prelude.{List, [], ◌∷◌, Some, option_map, codes}
use Rattle.serde_json.specs.Data.{Data, string, object}
use Rattle.json_members.specs.Members.{Field, with_fields}
use Rattle.json_members.specs.Values.{whole}
use Rattle.snapshot_entries.specs.declared.snapshot.Snapshot.{Snapshot}

-- its fields; one that is missing isn't printed
abbrev pub last_fields : Snapshot → List Field
last_fields s =
    (codes "schema-id", option_map whole s.schema_id)
    ∷ (codes "first-row-id", option_map whole s.first_row_id)
    ∷ (codes "added-rows", option_map whole s.added_rows)
    ∷ (codes "manifest-list", Some (string s.list))
    ∷ []

abbrev pub snapshot_fields : Snapshot → List Field
snapshot_fields s =
    (codes "snapshot-id", Some (whole s.id))
    ∷ (codes "timestamp-ms", Some (whole s.time))
    ∷ (codes "sequence-number", Some (whole s.sequence))
    ∷ (codes "parent-snapshot-id", option_map whole s.parent)
    ∷ last_fields s

abbrev pub snapshot_value : Snapshot → Data
snapshot_value s = object (with_fields (snapshot_fields s) s.rest)
