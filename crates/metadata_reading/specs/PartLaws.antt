-- What is read first: the version and the id, and then the snapshots and the columns.
use Rattle.std.proofs.Common.{◌≡◌, ℕ, pos, List, Bool, true, false, not, ◌||◌, if◌then◌else◌, Some}
use Rattle.std.proofs.Common.{Ok, Err, codes, refl, sym, ap, ap₂, subst}
use Rattle.std.proofs.lemmas.Bool.{or_parts}
use Rattle.words.specs.Reading.{map_refusal}
use Rattle.words.specs.Steps.{bind_ok, bind_only, map_ok, ok_is, test_passed, test_failed}
use Rattle.json_members.specs.declared.rows.Keep.TheVariants.{InField}
use Rattle.json_members.specs.declared.rows.Version.{Version}
use Rattle.json_members.specs.declared.rows.Version.TheVariants.{Older}
use Rattle.json_members.specs.Form.{items_in}
use Rattle.json_members.specs.MeaningLaws as meaning
use Rattle.json_members.specs.Rows.{Lookup, AreRight}
use Rattle.json_members.specs.Values.{number_in, number_or_0}
use Rattle.row_types.specs.declared.column.Column.{Column}
use Rattle.snapshot_entries.specs.declared.snapshot.Snapshot.{Snapshot}
use Rattle.snapshot_entries.specs.FoundLaws.{snapshots_found, snapshots_only}
use Rattle.snapshot_entries.specs.Keys.{has_keys, AreUnencrypted}
use Rattle.snapshot_entries.specs.KeyLaws.{keys_lacked, lacked_keys}
use Rattle.snapshot_entries.specs.Reading.{snapshots_in}
use Rattle.snapshot_entries.specs.Relation.{AreSnapshotsOf}
use Rattle.metadata_reading.specs.declared.refusal.MetaRefusal.TheVariants.{Encrypted, Partitioned}
use Rattle.metadata_reading.specs.CheckLaws.{version_found, found_version, uuid_found, found_uuid, rows_right}
use Rattle.metadata_reading.specs.CheckLaws.{right_rows}
use Rattle.metadata_reading.specs.CheckLaws.{passed, in_both, Checked, all_checked, checked_all}
use Rattle.metadata_reading.specs.Members.{part}
use Rattle.metadata_reading.specs.Reading.{rows_checked, members_by, uuid_by}
use Rattle.metadata_reading.specs.Reading.{head_by, keys_checked, snapshots_of, columns_by, parts_by}
use Rattle.metadata_reading.specs.Refusal.{of_snapshots}
use Rattle.metadata_reading.specs.Relation.{IsUuid}
use Rattle.metadata_reading.specs.Schemas.{schema_of, schema_columns, are_none, are_unpartitioned}
use Rattle.metadata_reading.specs.Schemas.{partitions_checked}
use Rattle.metadata_reading.specs.Version.{IsVersion, format, version_in, uuid_in}

-- ---- the head

-- the version and the id are found, and all checks pass
pub record HeadIsFound (found : Lookup) (head : ℕ × List ℕ) : Type 0 where
  pub version : number_in (found (codes "format-version")) ≡ Some (pos head.0)
  pub two_or_three : IsVersion head.0
  pub uuid : IsUuid (found (codes "table-uuid")) head.1
  pub checked : Checked (format head.0) found

uuid_read : (version : Version) (found : Lookup) (uuid : List ℕ) → uuid_by version found ≡ Ok uuid
    → IsUuid (found (codes "table-uuid")) uuid × Checked version found
uuid_read version found uuid is =
    let a = bind_ok (rows_checked version 1 1 found) _ uuid is in
    let b = bind_ok (uuid_in (found (codes "table-uuid"))) _ uuid a.2 in
    let c = bind_ok (members_by version found) _ uuid b.2 in
    let row = subst (AreRight found) (in_both 1 1 refl version) (rows_right version 1 1 found a.0 a.1) in
    let text = meaning.text_found (codes "table-uuid") Older InField (found (codes "table-uuid")) row.0 in (
      subst (IsUuid (found (codes "table-uuid"))) (ok_is b.0 uuid c.2) (uuid_found _ b.0 text b.1),
      all_checked version found c.0 c.1,
    )

pub head_found : (found : Lookup) (head : ℕ × List ℕ) → head_by found ≡ Ok head → HeadIsFound found head
head_found found head is =
    let a = bind_ok (version_in (found (codes "format-version"))) _ head is in
    let b = bind_ok (uuid_by (format a.0) found) _ head a.2 in
    let version = version_found (found (codes "format-version")) a.0 a.1 in
    let uuid = uuid_read (format a.0) found b.0 b.1 in
    subst (HeadIsFound found) (ok_is (a.0, b.0) head b.2)
    (record { version = version.0; two_or_three = version.1; uuid = uuid.0; checked = uuid.1 })

pub found_head : (found : Lookup) (version : ℕ) (uuid : List ℕ) → HeadIsFound found (version, uuid)
    → head_by found ≡ Ok (version, uuid)
found_head found version uuid h =
    let row : AreRight found (part 1 1 Older) = (
      meaning.found_text (codes "table-uuid") Older InField (found (codes "table-uuid")) h.uuid.text h.uuid.is_text,
      tt,
    ) in
    let rows = right_rows (format version) 1 1 found
    (subst (AreRight found) (sym (in_both 1 1 refl (format version))) row) in
    let read : uuid_by (format version) found ≡ Ok uuid =
    bind_only _ _ tt _ rows
    (bind_only _ _ uuid _ (found_uuid (found (codes "table-uuid")) uuid h.uuid)
    (bind_only _ _ tt _ (checked_all (format version) found h.checked) refl)) in
    bind_only _ _ version _ (found_version (found (codes "format-version")) version h.version h.two_or_three)
    (bind_only _ _ uuid _ read refl)

-- ---- the snapshots and the columns

-- they are found, and nothing is encrypted or partitioned
pub record PartsAreFound (version : Version) (found : Lookup) (parts : List Snapshot × List Column) : Type 0 where
  pub snapshots : AreSnapshotsOf version (number_or_0 (found (codes "last-sequence-number")))
      (items_in (found (codes "snapshots"))) parts.0
  pub no_keys : are_none (items_in (found (codes "encryption-keys"))) ≡ true
  pub unencrypted : AreUnencrypted parts.0
  pub unpartitioned : are_unpartitioned (items_in (found (codes "partition-specs"))) ≡ true
  pub columns : schema_columns (schema_of (number_or_0 (found (codes "current-schema-id")))
      (items_in (found (codes "schemas")))) ≡ Ok parts.1

not_not : (b : Bool) → not b ≡ false → b ≡ true
not_not true is = refl
not_not false is = absurd cc

pub parts_found : (version : Version) (found : Lookup) (parts : List Snapshot × List Column)
    → parts_by version found ≡ Ok parts → PartsAreFound version found parts
parts_found version found parts is =
    let last = number_or_0 (found (codes "last-sequence-number")) in
    let items = items_in (found (codes "snapshots")) in
    let keys = items_in (found (codes "encryption-keys")) in
    let specs = items_in (found (codes "partition-specs")) in
    let a = bind_ok (snapshots_of version last (found (codes "snapshots"))) _ parts is in
    let b = bind_ok (columns_by found a.0) _ parts a.2 in
    let c = bind_ok (keys_checked (found (codes "encryption-keys")) a.0) _ b.0 b.1 in
    let d = bind_ok (partitions_checked specs) _ b.0 c.2 in
    let none = or_parts _ _ (test_failed (not (are_none keys) || has_keys a.0) (Ok tt) _ c.0 c.1).0 in
    subst (PartsAreFound version found) (ok_is (a.0, b.0) parts b.2)
    (record {
      snapshots = snapshots_found version last items a.0
          (map_ok of_snapshots (snapshots_in version last items) a.0 a.1);
      no_keys = not_not (are_none keys) none.0;
      unencrypted = keys_lacked a.0 none.1;
      unpartitioned = (test_passed (are_unpartitioned specs) (Ok tt) _ d.0 d.1).0;
      columns = d.2;
    })

pub found_parts : (version : Version) (found : Lookup) (snapshots : List Snapshot) (columns : List Column)
    → PartsAreFound version found (snapshots, columns) → parts_by version found ≡ Ok (snapshots, columns)
found_parts version found snapshots columns h =
    let last = number_or_0 (found (codes "last-sequence-number")) in
    let items = items_in (found (codes "snapshots")) in
    let specs = items_in (found (codes "partition-specs")) in
    let keys : keys_checked (found (codes "encryption-keys")) snapshots ≡ passed =
    ap₂ (λ (none some : Bool). if not none || some then Err Encrypted else passed) h.no_keys
    (lacked_keys snapshots h.unencrypted) in
    let partitions : partitions_checked specs ≡ passed =
    ap (λ (b : Bool). if b then passed else Err Partitioned) h.unpartitioned in
    let read : columns_by found snapshots ≡ Ok columns =
    bind_only _ _ tt _ keys (bind_only _ _ tt _ partitions h.columns) in
    bind_only _ _ snapshots _ (ap (map_refusal of_snapshots) (snapshots_only version last items snapshots h.snapshots))
    (bind_only _ _ columns _ read refl)
