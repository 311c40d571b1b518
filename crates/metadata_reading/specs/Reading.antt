-- The metadata that a JSON text is, or the first check that refuses it. Iceberg spec, "Table Metadata Fields".
use Rattle.std.specs.Prelude.{ℕ, ℤ, negsuc, ◌||◌, not, List, [], Option, Some, None, Result, Ok, Err, codes}
use Rattle.std.specs.Prelude.{if◌then◌else◌}
use Rattle.std.specs.Ordering.{int_eq}
use Rattle.words.specs.Reading.{◌>>=◌, map_refusal}
use Rattle.serde_json.specs.Data.{Data, Items, Members}
use Rattle.serde_json.specs.Find.{get_member, as_object}
use Rattle.serde_json.specs.Written.{has_float}
use Rattle.json_members.specs.declared.rows.Version.{Version}
use Rattle.json_members.specs.Form.{items_in}
use Rattle.json_members.specs.Members.{without}
use Rattle.json_members.specs.Parsing.{value_of}
use Rattle.json_members.specs.Rows.{Lookup, checked_by}
use Rattle.json_members.specs.Values.{number_in, number_since, number_or_0, text_or_empty}
use Rattle.row_types.specs.declared.column.Column.{Column}
use Rattle.snapshot_entries.specs.declared.snapshot.Snapshot.{Snapshot}
use Rattle.snapshot_entries.specs.Keys.{has_keys}
use Rattle.snapshot_entries.specs.List.{ids_checked, has_snapshot}
use Rattle.snapshot_entries.specs.Reading.{snapshots_in}
use Rattle.metadata_reading.specs.declared.meta.TableMeta.{TableMeta}
use Rattle.metadata_reading.specs.declared.refusal.MetaRefusal.{MetaRefusal}
use Rattle.metadata_reading.specs.declared.refusal.MetaRefusal.TheVariants.{NotJson, Fraction, Wrong, Encrypted}
use Rattle.metadata_reading.specs.Members.{part, known}
use Rattle.metadata_reading.specs.Refusal.{of_fault, of_snapshots}
use Rattle.metadata_reading.specs.Schemas.{schemas_checked, schema_of, current_schema_checked, schema_columns}
use Rattle.metadata_reading.specs.Schemas.{specs_checked, are_none, partitions_checked}
use Rattle.metadata_reading.specs.Version.{format, version_in, uuid_in}

-- ---- the members, in the order of their checks

-- the first fault of so many rows from one on
abbrev pub rows_checked : Version → ℕ → ℕ → Lookup → Result (Unit {0}) MetaRefusal
rows_checked version from count found = map_refusal of_fault (checked_by found (part from count version))

-- the id of the current snapshot: -1 means that there is none
abbrev pub unless_minus_1 : Option ℤ → Option ℤ
unless_minus_1 None = None
unless_minus_1 (Some id) = if int_eq id (negsuc 0) then None else Some id

abbrev pub current_in : Option Data → Option ℤ
current_in found = unless_minus_1 (number_in found)

-- some snapshot has that id, if there is one
abbrev pub current_checked : Option ℤ → Items → Result (Unit {0}) MetaRefusal
current_checked None items = Ok tt
current_checked (Some id) items = if has_snapshot items id then Ok tt else Err (Wrong (codes "current-snapshot-id"))

-- the schemas, and which of them is the current one
abbrev pub schemas_by : Version → Lookup → Result (Unit {0}) MetaRefusal
schemas_by version found = do
  _ ← rows_checked version 2 5 found
  _ ← schemas_checked (items_in (found (codes "schemas")))
  _ ← rows_checked version 7 1 found
  current_schema_checked (number_or_0 (found (codes "current-schema-id"))) (items_in (found (codes "schemas")))

-- the snapshots, and which of them is the current one
abbrev pub snapshots_by : Version → Lookup → Result (Unit {0}) MetaRefusal
snapshots_by version found = do
  _ ← rows_checked version 9 3 found
  _ ← map_refusal of_snapshots (ids_checked (items_in (found (codes "snapshots"))))
  _ ← rows_checked version 12 1 found
  current_checked (current_in (found (codes "current-snapshot-id"))) (items_in (found (codes "snapshots")))

-- all members after the table's id
abbrev pub members_by : Version → Lookup → Result (Unit {0}) MetaRefusal
members_by version found = do
  _ ← schemas_by version found
  _ ← rows_checked version 8 1 found
  _ ← specs_checked (items_in (found (codes "partition-specs")))
  _ ← snapshots_by version found
  rows_checked version 13 5 found

-- the table's id, if no member has a fault
abbrev pub uuid_by : Version → Lookup → Result (List ℕ) MetaRefusal
uuid_by version found = do
  _ ← rows_checked version 1 1 found
  uuid ← uuid_in (found (codes "table-uuid"))
  _ ← members_by version found
  Ok uuid

-- the version, and that id
abbrev pub head_by : Lookup → Result (ℕ × List ℕ) MetaRefusal
head_by found = do
  version ← version_in (found (codes "format-version"))
  uuid ← uuid_by (format version) found
  Ok (version, uuid)

-- ---- what stands in them

-- no key encrypts anything of the table
abbrev pub keys_checked : Option Data → List Snapshot → Result (Unit {0}) MetaRefusal
keys_checked keys snapshots = if not (are_none (items_in keys)) || has_keys snapshots then Err Encrypted else Ok tt

-- the snapshots of the list that is found
abbrev pub snapshots_of : Version → ℤ → Option Data → Result (List Snapshot) MetaRefusal
snapshots_of version last found = map_refusal of_snapshots (snapshots_in version last (items_in found))

-- the columns of the first schema that has the id
abbrev pub columns_of : ℤ → Option Data → Result (List Column) MetaRefusal
columns_of id found = schema_columns (schema_of id (items_in found))

-- the columns, if nothing is encrypted or partitioned
abbrev pub columns_by : Lookup → List Snapshot → Result (List Column) MetaRefusal
columns_by found snapshots = do
  _ ← keys_checked (found (codes "encryption-keys")) snapshots
  _ ← partitions_checked (items_in (found (codes "partition-specs")))
  columns_of (number_or_0 (found (codes "current-schema-id"))) (found (codes "schemas"))

-- the snapshots, and then the columns
abbrev pub parts_by : Version → Lookup → Result (List Snapshot × List Column) MetaRefusal
parts_by version found = do
  snapshots ← snapshots_of version (number_or_0 (found (codes "last-sequence-number"))) (found (codes "snapshots"))
  columns ← columns_by found snapshots
  Ok (snapshots, columns)

-- the record of what is found, and of what is left
abbrev pub record_of : Lookup → Members → ℕ × List ℕ → List ℕ → List Snapshot × List Column → TableMeta
record_of found left head location parts = record {
  version = head.0;
  uuid = head.1;
  location = location;
  last_sequence = number_or_0 (found (codes "last-sequence-number"));
  last_updated = number_or_0 (found (codes "last-updated-ms"));
  columns = parts.1;
  schema_id = number_or_0 (found (codes "current-schema-id"));
  spec_id = number_or_0 (found (codes "default-spec-id"));
  next_row_id = number_since (format head.0) (found (codes "next-row-id"));
  current = current_in (found (codes "current-snapshot-id"));
  snapshots = parts.0;
  rest = left;
}

abbrev pub meta_with : Lookup → Members → ℕ × List ℕ → List Snapshot × List Column → TableMeta
meta_with found left head parts = record_of found left head (text_or_empty (found (codes "location"))) parts

-- metadata, by what is found in its object, and what is left of that in each version
abbrev pub meta_by : Lookup → (Version → Members) → Result TableMeta MetaRefusal
meta_by found left = do
  head ← head_by found
  parts ← parts_by (format head.0) found
  Ok (meta_with found (left (format head.0)) head parts)

abbrev pub meta_of : Members → Result TableMeta MetaRefusal
meta_of members = meta_by (λ name. get_member name members) (λ version. without (known version) members)

-- ---- a text

abbrev pub object_or_wrong : Option Members → Result TableMeta MetaRefusal
object_or_wrong None = Err (Wrong [])
object_or_wrong (Some members) = meta_of members

abbrev pub meta_of_whole : Data → Result TableMeta MetaRefusal
meta_of_whole value = if has_float value then Err Fraction else object_or_wrong (as_object value)

abbrev pub meta_of_value : Option Data → Result TableMeta MetaRefusal
meta_of_value None = Err NotJson
meta_of_value (Some value) = meta_of_whole value

abbrev pub meta_of_text : List ℕ → Result TableMeta MetaRefusal
meta_of_text text = meta_of_value (value_of text)

-- the metadata of a text, if it has any
abbrev pub ok_of : Result TableMeta MetaRefusal → Option TableMeta
ok_of (Ok meta) = Some meta
ok_of (Err refusal) = None

abbrev pub meta_in : List ℕ → Option TableMeta
meta_in text = ok_of (meta_of_text text)
