-- Which metadata has a printed text that is read as it: what every call that returns metadata ensures.
use Rattle.std.specs.Prelude.{◌≡◌, ◌≤◌, ⊤, ℤ, length, true, List, Option, Some, None}
use Rattle.serde_json.specs.Find.{get_member}
use Rattle.json_members.specs.declared.rows.Version.{Version}
use Rattle.json_members.specs.declared.rows.Version.TheVariants.{Older, Newer}
use Rattle.json_members.specs.Form.{is_long, if_int}
use Rattle.json_members.specs.Members.{lacks}
use Rattle.json_members.specs.Plain.{ArePlain}
use Rattle.snapshot_entries.specs.declared.snapshot.Snapshot.{Snapshot}
use Rattle.snapshot_entries.specs.Keys.{AreUnencrypted}
use Rattle.snapshot_entries.specs.List.{are_apart, most_snapshots}
use Rattle.snapshot_entries.specs.Snapshot.{IsNatural, AreSnapshots}
use Rattle.metadata_reading.specs.declared.meta.TableMeta.{TableMeta}
use Rattle.metadata_reading.specs.Members.{known}
use Rattle.metadata_reading.specs.Relation.{ids, IsIdOf, AreCarried}
use Rattle.metadata_reading.specs.Version.{IsVersion, format}

-- a next row id of this version
abbrev pub IsNext : Version → Option ℤ → Type 0
IsNext Older next = next ≡ None
IsNext Newer None = ⊥
IsNext Newer (Some next) = IsNatural next

-- the current snapshot is one of these, if there is one
abbrev pub IsAmong : List Snapshot → Option ℤ → Type 0
IsAmong snapshots None = ⊤
IsAmong snapshots (Some id) = IsIdOf snapshots id

-- the metadata of a table
pub record IsTable (m : TableMeta) : Type 0 where
  pub version : IsVersion m.version
  pub last_sequence : IsNatural m.last_sequence
  pub last_updated : is_long m.last_updated ≡ true
  pub schema_id : is_long m.schema_id ≡ true
  pub spec_id : if_int m.spec_id ≡ Some m.spec_id
  pub next_row_id : IsNext (format m.version) m.next_row_id
  pub snapshots : AreSnapshots (format m.version) m.last_sequence m.snapshots
  pub few : length m.snapshots ≤ most_snapshots
  pub distinct : are_apart (ids m.snapshots) ≡ true
  pub current : IsAmong m.snapshots m.current
  pub unencrypted : AreUnencrypted m.snapshots
  pub carried : AreCarried (λ name. get_member name m.rest) m.schema_id m.columns
  pub lacks : lacks (known (format m.version)) m.rest ≡ true
  pub plain : ArePlain 126 m.rest
