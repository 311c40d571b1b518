-- The metadata after an upgrade to version 3.
use Rattle.std.specs.Prelude.{ℕ, ℤ, pos, List, [], ◌∷◌, map, Some, codes}
use Rattle.serde_json.specs.Data.{array, Members}
use Rattle.serde_json.specs.Find.{get_member}
use Rattle.json_members.specs.Form.{items_in}
use Rattle.json_members.specs.Members.{Field, with_fields, without}
use Rattle.snapshot_entries.specs.declared.snapshot.Snapshot.{Snapshot}
use Rattle.metadata_reading.specs.declared.meta.TableMeta.{TableMeta}
use Rattle.metadata_changes.specs.Logs.{with_last, metadata_entry}
use Rattle.metadata_changes.specs.Numbers.{larger}

-- the names of the members of a snapshot that only version 3 has
abbrev pub new_in_snapshots : List (List ℕ)
new_in_snapshots = codes "first-row-id" ∷ codes "added-rows" ∷ []

-- the snapshot without what it carries at these names
abbrev pub upgraded_snapshot : Snapshot → Snapshot
upgraded_snapshot s = record s { rest = without new_in_snapshots s.rest }

-- the carried members after the upgrade; `old`: when the old metadata was made, `path`: its file
abbrev pub upgraded_fields : Members → List ℕ → ℤ → List Field
upgraded_fields rest path old = (
  codes "metadata-log",
  Some (array (with_last (items_in (get_member (codes "metadata-log") rest)) (metadata_entry path old))),
)
    ∷ []

abbrev pub upgraded_rest : Members → List ℕ → ℤ → Members
upgraded_rest rest path old =
    with_fields (upgraded_fields rest path old) (without (codes "metadata-log" ∷ codes "next-row-id" ∷ []) rest)

-- the metadata after an upgrade to version 3 at a moment; `path`: the file of the old metadata
abbrev pub upgraded : TableMeta → List ℕ → ℤ → TableMeta
upgraded m path now = record m {
  version = 3;
  last_updated = larger m.last_updated now;
  next_row_id = Some (pos 0);
  snapshots = map upgraded_snapshot m.snapshots;
  rest = upgraded_rest m.rest path m.last_updated;
}
