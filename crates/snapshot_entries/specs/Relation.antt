-- Which snapshots the objects of a list are: each member by its name, and what is carried.
use Rattle.std.specs.Prelude.{◌≡◌, ℤ, ◌≤◌, ◌≤ℤ◌, ⊤, List, [], ◌∷◌, length, Option, Some, None, codes}
use Rattle.serde_json.specs.Data.{Data, string, object, Items, no_items, item, Members}
use Rattle.serde_json.specs.Find.{get_member}
use Rattle.json_members.specs.declared.rows.Version.{Version}
use Rattle.json_members.specs.declared.rows.Version.TheVariants.{Older, Newer}
use Rattle.json_members.specs.Meaning.{IsLongIfSet, IsNaturalIfSet, IsNaturalOr0}
use Rattle.json_members.specs.Members.{without}
use Rattle.json_members.specs.Rows.{Lookup}
use Rattle.json_members.specs.Values.{number_in, natural_in}
use Rattle.snapshot_entries.specs.declared.snapshot.Snapshot.{Snapshot}
use Rattle.snapshot_entries.specs.List.{most_snapshots, most_path}
use Rattle.snapshot_entries.specs.Members.{known}

-- a number that only the newer version has, not below 0, if one is set there
abbrev pub IsNewNumberFound : Version → Option Data → Option ℤ → Type 0
IsNewNumberFound Older found number = number ≡ None
IsNewNumberFound Newer found number = IsNaturalIfSet found number

-- what is found at each name, and what is left beside the members with fields, are this snapshot of a table whose last
-- sequence number this is
pub record IsFound (version : Version) (last : ℤ) (found : Lookup) (left : Members) (s : Snapshot) : Type 0 where
  pub id : natural_in (found (codes "snapshot-id")) ≡ Some s.id
  pub time : number_in (found (codes "timestamp-ms")) ≡ Some s.time
  pub sequence : IsNaturalOr0 (found (codes "sequence-number")) s.sequence
  pub passed : s.sequence ≤ℤ last
  pub parent : IsLongIfSet (found (codes "parent-snapshot-id")) s.parent
  pub schema_id : IsLongIfSet (found (codes "schema-id")) s.schema_id
  pub first_row_id : IsNewNumberFound version (found (codes "first-row-id")) s.first_row_id
  pub added_rows : IsNewNumberFound version (found (codes "added-rows")) s.added_rows
  pub list : found (codes "manifest-list") ≡ Some (string s.list)
  pub path : length s.list ≤ most_path
  pub rest : left ≡ s.rest

-- the members of an object are this snapshot
abbrev pub IsSnapshotOf : Version → ℤ → Members → Snapshot → Type 0
IsSnapshotOf version last members s =
    IsFound version last (λ name. get_member name members) (without (known version) members) s

-- the value is an object, and this snapshot
pub record IsEntry (version : Version) (last : ℤ) (value : Data) (s : Snapshot) : Type 0 where
  pub members : Members
  pub is_object : value ≡ object members
  pub snapshot : IsSnapshotOf version last members s

-- the values are these snapshots, in order
abbrev pub AreEntries : Version → ℤ → Items → List Snapshot → Type 0
AreEntries version last no_items [] = ⊤
AreEntries version last no_items (s ∷ snapshots) = ⊥
AreEntries version last (item value items) [] = ⊥
AreEntries version last (item value items) (s ∷ snapshots) =
    IsEntry version last value s × AreEntries version last items snapshots

-- the items of the list are these snapshots, and not too many
pub record AreSnapshotsOf (version : Version) (last : ℤ) (items : Items) (snapshots : List Snapshot) : Type 0 where
  pub few : length snapshots ≤ most_snapshots
  pub entries : AreEntries version last items snapshots
