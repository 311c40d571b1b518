-- Which metadata a JSON text is: each member by its name, and what is carried. Iceberg spec, "Table Metadata Fields".
use Rattle.std.specs.Prelude.{◌≡◌, ◌≢◌, ◌⊎◌, ⊤, ℕ, ℤ, pos, negsuc, List, Option, Some, None, codes, map, true, false}
use Rattle.std.specs.Str.{is_utf8}
use Rattle.uuid.specs.Text.{parsed}
use Rattle.serde_json.specs.Data.{Data, null, string, array, object, Items, no_items, item, Members}
use Rattle.serde_json.specs.Find.{get_member, get}
use Rattle.serde_json.specs.Read.{read}
use Rattle.serde_json.specs.Written.{members_have_float}
use Rattle.json_members.specs.declared.rows.Version.{Version}
use Rattle.json_members.specs.declared.rows.Version.TheVariants.{Older, Newer}
use Rattle.json_members.specs.Form.{items_in}
use Rattle.json_members.specs.Meaning.{IsListIfAny, IsObjectIfAny}
use Rattle.json_members.specs.Members.{without}
use Rattle.json_members.specs.Rows.{Lookup}
use Rattle.json_members.specs.Values.{number_in, natural_in, int_in}
use Rattle.row_types.specs.declared.column.Column.{Column}
use Rattle.schema_columns.specs.Relation.{IsSchema}
use Rattle.snapshot_entries.specs.declared.snapshot.Snapshot.{Snapshot}
use Rattle.snapshot_entries.specs.Keys.{AreUnencrypted}
use Rattle.snapshot_entries.specs.List.{has_id, are_apart}
use Rattle.snapshot_entries.specs.Relation.{AreSnapshotsOf}
use Rattle.metadata_reading.specs.declared.meta.TableMeta.{TableMeta}
use Rattle.metadata_reading.specs.Members.{known}
use Rattle.metadata_reading.specs.Version.{IsVersion, format}

-- ---- values

-- the text that is found is an id in one of the forms that are read
pub record IsUuid (found : Option Data) (uuid : List ℕ) : Type 0 where
  pub text : List ℕ
  pub is_text : found ≡ Some (string text)
  pub is_id : parsed text ≡ Some uuid

-- the next row id: version 3 needs it, version 2 has none
abbrev pub IsNextRowId : Version → Option Data → Option ℤ → Type 0
IsNextRowId Older found next = next ≡ None
IsNextRowId Newer found None = ⊥
IsNextRowId Newer found (Some next) = natural_in found ≡ Some next

-- nothing is found, or null, or -1
abbrev pub IsNoId : Option Data → Type 0
IsNoId None = ⊤
IsNoId (Some value) = (value ≡ null) ⊎ (number_in (Some value) ≡ Some (negsuc 0))

-- the ids of snapshots
abbrev pub ids : List Snapshot → List ℤ
ids snapshots = map (λ (s : Snapshot). s.id) snapshots

-- one of these snapshots has the id, which isn't the -1 that means none
pub record IsIdOf (snapshots : List Snapshot) (id : ℤ) : Type 0 where
  pub among : has_id (ids snapshots) id ≡ true
  pub set : id ≢ negsuc 0

-- the id of the current snapshot, which is one of these, if there is one
abbrev pub IsCurrent : Option Data → List Snapshot → Option ℤ → Type 0
IsCurrent found snapshots None = IsNoId found
IsCurrent found snapshots (Some id) = (number_in found ≡ Some id) × IsIdOf snapshots id

-- ---- members that are carried

-- the value is an object with a number at the name
abbrev pub HasNumber : List ℕ → Data → Type 0
HasNumber name value = (z : ℤ) × (number_in (get name value) ≡ Some z)

-- the items are objects, each with a number `schema-id`
abbrev pub AreSchemas : Items → Type 0
AreSchemas no_items = ⊤
AreSchemas (item value items) = HasNumber (codes "schema-id") value × AreSchemas items

-- the first item with this number at `schema-id` is this object
abbrev pub IsFirstSchema : ℤ → Items → Members → Type 0
IsFirstSchema id no_items schema = ⊥
IsFirstSchema id (item value items) schema =
    (value ≡ object schema) × (number_in (get (codes "schema-id") value) ≡ Some id)
    ⊎ (number_in (get (codes "schema-id") value) ≢ Some id) × IsFirstSchema id items schema

-- the list of schemas: the first one that has the id is a schema with these columns
pub record HasSchema (id : ℤ) (found : Option Data) (columns : List Column) : Type 0 where
  pub items : Items
  pub is_list : found ≡ Some (array items)
  pub each : AreSchemas items
  pub schema : Members
  pub current : IsFirstSchema id items schema
  pub is_schema : IsSchema schema columns

-- the items are objects, each with a number `spec-id` and an empty list `fields`
abbrev pub AreUnpartitioned : Items → Type 0
AreUnpartitioned no_items = ⊤
AreUnpartitioned (item value items) =
    (HasNumber (codes "spec-id") value × (get (codes "fields") value ≡ Some (array no_items))) × AreUnpartitioned items

-- the members that are checked, and carried: over what is found at each name
pub record AreCarried (found : Lookup) (id : ℤ) (columns : List Column) : Type 0 where
  pub last_column_id : (z : ℤ) × (number_in (found (codes "last-column-id")) ≡ Some z)
  pub schemas : HasSchema id (found (codes "schemas")) columns
  pub specs : (items : Items) × (found (codes "partition-specs") ≡ Some (array items)) × AreUnpartitioned items
  pub snapshot_log : IsListIfAny (found (codes "snapshot-log"))
  pub metadata_log : IsListIfAny (found (codes "metadata-log"))
  pub refs : IsObjectIfAny (found (codes "refs"))
  pub properties : IsObjectIfAny (found (codes "properties"))
  pub encryption_keys : IsListIfAny (found (codes "encryption-keys"))
  pub no_keys : items_in (found (codes "encryption-keys")) ≡ no_items

-- ---- metadata

-- what is found at each name, and what is left beside the members with fields, are this metadata
pub record IsFound (found : Lookup) (left : Version → Members) (m : TableMeta) : Type 0 where
  pub version : number_in (found (codes "format-version")) ≡ Some (pos m.version)
  pub two_or_three : IsVersion m.version
  pub uuid : IsUuid (found (codes "table-uuid")) m.uuid
  pub location : found (codes "location") ≡ Some (string m.location)
  pub last_sequence : natural_in (found (codes "last-sequence-number")) ≡ Some m.last_sequence
  pub last_updated : number_in (found (codes "last-updated-ms")) ≡ Some m.last_updated
  pub schema_id : number_in (found (codes "current-schema-id")) ≡ Some m.schema_id
  pub spec_id : int_in (found (codes "default-spec-id")) ≡ Some m.spec_id
  pub next_row_id : IsNextRowId (format m.version) (found (codes "next-row-id")) m.next_row_id
  pub is_list : IsListIfAny (found (codes "snapshots"))
  pub snapshots : AreSnapshotsOf (format m.version) m.last_sequence (items_in (found (codes "snapshots"))) m.snapshots
  pub distinct : are_apart (ids m.snapshots) ≡ true
  pub current : IsCurrent (found (codes "current-snapshot-id")) m.snapshots m.current
  pub carried : AreCarried found m.schema_id m.columns
  pub unencrypted : AreUnencrypted m.snapshots
  pub rest : left (format m.version) ≡ m.rest

-- the members of an object are this metadata
abbrev pub IsMeta : Members → TableMeta → Type 0
IsMeta members m = IsFound (λ name. get_member name members) (λ version. without (known version) members) m

-- the text is JSON in UTF-8: an object without floats, whose members are this metadata
pub record IsMetaText (text : List ℕ) (m : TableMeta) : Type 0 where
  pub members : Members
  pub utf8 : is_utf8 text ≡ true
  pub json : read text ≡ Some (object members)
  pub whole : members_have_float members ≡ false
  pub meta : IsMeta members m
