-- The carried members that a change touches. Iceberg spec, "Table Metadata Fields" and "Snapshot References".
use Rattle.std.specs.Prelude.{ℕ, ℤ, List, [], ◌∷◌, Option, Some, None, option_and_then, unwrap_or, codes}
use Rattle.serde_json.specs.Data.{Data, string, object, Items, no_items, item, Members, no_members, put}
use Rattle.serde_json.specs.Find.{get_member, as_object}
use Rattle.json_members.specs.Members.{Field, with_fields, without}
use Rattle.json_members.specs.Values.{whole}

-- the items, with one last
abbrev pub with_last : Items → Data → Items
with_last no_items value = item value no_items
with_last (item first items) value = item first (with_last items value)

-- the members of an object; whatever else is found, or nothing, has none
abbrev pub members_in : Option Data → Members
members_in found = unwrap_or (option_and_then as_object found) no_members

-- ---- logs

abbrev pub snapshot_fields : ℤ → ℤ → List Field
snapshot_fields id time =
    (codes "snapshot-id", Some (whole id)) ∷ (codes "timestamp-ms", Some (whole time)) ∷ []

-- an entry of the log of snapshots
abbrev pub snapshot_entry : ℤ → ℤ → Data
snapshot_entry id time = object (with_fields (snapshot_fields id time) no_members)

abbrev pub metadata_fields : List ℕ → ℤ → List Field
metadata_fields path time =
    (codes "metadata-file", Some (string path)) ∷ (codes "timestamp-ms", Some (whole time)) ∷ []

-- an entry of the log of metadata files
abbrev pub metadata_entry : List ℕ → ℤ → Data
metadata_entry path time = object (with_fields (metadata_fields path time) no_members)

-- ---- references

abbrev pub branch_fields : ℤ → List Field
branch_fields id = (codes "snapshot-id", Some (whole id)) ∷ (codes "type", Some (string (codes "branch"))) ∷ []

-- the branch, at this snapshot: a new one if there is none
abbrev pub branch_at : ℤ → Option Members → Members
branch_at id None = with_fields (branch_fields id) no_members
branch_at id (Some branch) = put (codes "snapshot-id") (whole id) branch

-- the references, with `main` at this snapshot
abbrev pub with_main : ℤ → Members → Members
with_main id refs =
    put (codes "main") (object (branch_at id (option_and_then as_object (get_member (codes "main") refs))))
    (without (codes "main" ∷ []) refs)
