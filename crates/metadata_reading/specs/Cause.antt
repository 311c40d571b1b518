-- Why a text is refused as table metadata: the cause of each refusal, whichever check comes first. Iceberg spec, "Table
-- Metadata Fields".
use Rattle.std.specs.Prelude.{◌≡◌, ◌≢◌, ◌⊎◌, ℕ, ℤ, pos, List, [], Option, Some, None, Bool, true, false, codes}
use Rattle.std.specs.Prelude.{if◌then◌else◌}
use Rattle.std.specs.Ordering.{int_eq}
use Rattle.uuid.specs.Text.{parsed}
use Rattle.serde_json.specs.Data.{Data, string, Items, Members}
use Rattle.serde_json.specs.Find.{get_member, as_object}
use Rattle.serde_json.specs.Written.{has_float}
use Rattle.limits.specs.declared.which.Which.{Which}
use Rattle.limits.specs.declared.which.Which.TheVariants as limit
use Rattle.json_members.specs.declared.fault.Fault.{Fault}
use Rattle.json_members.specs.declared.fault.Fault.TheVariants as fault
use Rattle.json_members.specs.declared.rows.Version.{Version as Format}
use Rattle.json_members.specs.declared.rows.Version.TheVariants.{Older, Newer}
use Rattle.json_members.specs.Cause.{AnyHasFault}
use Rattle.json_members.specs.Form.{items_in}
use Rattle.json_members.specs.Parsing.{value_of}
use Rattle.json_members.specs.Rows.{Lookup, of_version}
use Rattle.json_members.specs.Values.{number_in, natural_in}
use Rattle.snapshot_entries.specs.declared.refusal.SnapshotRefusal.{SnapshotRefusal}
use Rattle.snapshot_entries.specs.declared.refusal.SnapshotRefusal.TheVariants as snapshots
use Rattle.snapshot_entries.specs.declared.snapshot.Snapshot.{Snapshot}
use Rattle.snapshot_entries.specs.Cause.{IsListCause}
use Rattle.snapshot_entries.specs.Keys.{has_keys}
use Rattle.snapshot_entries.specs.List.{are_distinct, has_snapshot}
use Rattle.snapshot_entries.specs.Relation.{AreSnapshotsOf}
use Rattle.schema_columns.specs.declared.refusal.ColumnRefusal.{ColumnRefusal}
use Rattle.schema_columns.specs.declared.refusal.ColumnRefusal.TheVariants as columns
use Rattle.schema_columns.specs.Cause.{IsSchemaCause}
use Rattle.metadata_reading.specs.declared.refusal.MetaRefusal.{MetaRefusal}
use Rattle.metadata_reading.specs.declared.refusal.MetaRefusal.TheVariants.{NotJson, Fraction, Missing, Wrong, Version}
use Rattle.metadata_reading.specs.declared.refusal.MetaRefusal.TheVariants.{Encrypted, Partitioned, ColumnType}
use Rattle.metadata_reading.specs.declared.refusal.MetaRefusal.TheVariants.{NoManifestList, Limit, Memory}
use Rattle.metadata_reading.specs.Members.{members}
use Rattle.metadata_reading.specs.Reading.{current_in}
use Rattle.metadata_reading.specs.CurrentSchema.{IsCurrentSchema, HasNoSchema}
use Rattle.metadata_reading.specs.Schemas.{are_schemas, are_specs, are_none, are_unpartitioned}

-- ---- what is found

-- the items of the list at a name
abbrev pub list_at : List ℕ → Lookup → Items
list_at name found = items_in (found name)

-- the members of version 3 if the text says 3, else those of version 2
abbrev pub is_3 : Option ℤ → Bool
is_3 None = false
is_3 (Some n) = int_eq n (pos 3)

abbrev pub format_in : Lookup → Format
format_in found = if is_3 (number_in (found (codes "format-version"))) then Newer else Older

-- this is the last sequence number
abbrev pub IsLast : Lookup → ℤ → Type 0
IsLast found last = natural_in (found (codes "last-sequence-number")) ≡ Some last

-- ---- causes, by what is found at each name

-- a member of the table is missing or wrong
abbrev pub MembersHave : Lookup → Fault → Type 0
MembersHave found f = AnyHasFault found (of_version (format_in found) members) f

-- the list of snapshots has this refusal, with the last sequence number that is found
abbrev pub SnapshotsHave : Lookup → SnapshotRefusal → Type 0
SnapshotsHave found refusal =
    (last : ℤ) × IsLast found last
    × IsListCause (format_in found) last (list_at (codes "snapshots") found) refusal

-- the current schema has this refusal
abbrev pub ColumnsHave : Lookup → ColumnRefusal → Type 0
ColumnsHave found refusal = (schema : Members) × IsCurrentSchema found schema × IsSchemaCause schema refusal

-- a text is found, and it is no id
abbrev pub IsNoUuid : Option Data → Type 0
IsNoUuid found = (text : List ℕ) × (found ≡ Some (string text)) × (parsed text ≡ None)

-- a current snapshot is named, and no snapshot has its id
pub record IsNotThere (found : Lookup) : Type 0 where
  pub id : ℤ
  pub named : current_in (found (codes "current-snapshot-id")) ≡ Some id
  pub none : has_snapshot (list_at (codes "snapshots") found) id ≡ false

-- the member with this name has its form, and breaks a rule of its own
abbrev pub BreaksRule : Lookup → List ℕ → Type 0
BreaksRule found name =
    (name ≡ codes "table-uuid") × IsNoUuid (found (codes "table-uuid"))
    ⊎ ((name ≡ codes "schemas") × (are_schemas (list_at (codes "schemas") found) ≡ false)
    ⊎ ((name ≡ codes "current-schema-id") × HasNoSchema found
    ⊎ ((name ≡ codes "fields") × ColumnsHave found columns.Fields
    ⊎ ((name ≡ codes "partition-specs") × (are_specs (list_at (codes "partition-specs") found) ≡ false)
    ⊎ ((name ≡ codes "snapshots") × (are_distinct (list_at (codes "snapshots") found) ≡ false)
    ⊎ (name ≡ codes "current-snapshot-id") × IsNotThere found)))))

-- the version is this number, and neither 2 nor 3
pub record IsOtherVersion (found : Lookup) (n : ℤ) : Type 0 where
  pub here : number_in (found (codes "format-version")) ≡ Some n
  pub not_2 : n ≢ pos 2
  pub not_3 : n ≢ pos 3

-- a snapshot has an encryption key
pub record SnapshotsHaveKey (found : Lookup) : Type 0 where
  pub last : ℤ
  pub is_last : IsLast found last
  pub all : List Snapshot
  pub here : AreSnapshotsOf (format_in found) last (list_at (codes "snapshots") found) all
  pub key : has_keys all ≡ true

-- the table or a snapshot has an encryption key
abbrev pub IsEncrypted : Lookup → Type 0
IsEncrypted found = (are_none (list_at (codes "encryption-keys") found) ≡ false) ⊎ SnapshotsHaveKey found

-- a limit that a list of snapshots has
abbrev pub IsAboveLimit : Lookup → Which → ℕ → Type 0
IsAboveLimit found limit.Snapshots many = SnapshotsHave found (snapshots.Snapshots many)
IsAboveLimit found limit.Path many = SnapshotsHave found (snapshots.Path many)
IsAboveLimit found _ many = ⊥

-- the refusal of an object, by what is found in it
abbrev pub IsRefused : Lookup → MetaRefusal → Type 0
IsRefused found NotJson = ⊥
IsRefused found Fraction = ⊥
IsRefused found (Missing name) = MembersHave found (fault.Missing name) ⊎ SnapshotsHave found (snapshots.Missing name)
IsRefused found (Wrong name) =
    MembersHave found (fault.Wrong name) ⊎ (SnapshotsHave found (snapshots.Wrong name) ⊎ BreaksRule found name)
IsRefused found (Version n) = IsOtherVersion found n
IsRefused found Encrypted = IsEncrypted found
IsRefused found Partitioned = are_unpartitioned (list_at (codes "partition-specs") found) ≡ false
IsRefused found (ColumnType name) = ColumnsHave found (columns.ColumnType name)
IsRefused found (NoManifestList id) = SnapshotsHave found (snapshots.NoManifestList id)
IsRefused found (Limit which many) = IsAboveLimit found which many
IsRefused found Memory = ⊥

-- ---- a text

-- the value of the text has a float
abbrev pub HasFraction : List ℕ → Type 0
HasFraction text = (value : Data) × (value_of text ≡ Some value) × (has_float value ≡ true)

-- the value is no object, which is a wrong member without a name; or its members are refused
abbrev pub ObjectIsRefused : Option Members → MetaRefusal → Type 0
ObjectIsRefused None refusal = refusal ≡ Wrong []
ObjectIsRefused (Some ms) refusal = IsRefused (λ name. get_member name ms) refusal

abbrev pub ValueIsRefused : List ℕ → MetaRefusal → Type 0
ValueIsRefused text refusal =
    (value : Data) × (value_of text ≡ Some value) × ObjectIsRefused (as_object value) refusal

-- the refusal of a text
abbrev pub IsMetaCause : List ℕ → MetaRefusal → Type 0
IsMetaCause text NotJson = value_of text ≡ None
IsMetaCause text Fraction = HasFraction text
IsMetaCause text refusal = ValueIsRefused text refusal
