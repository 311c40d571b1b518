-- Snapshots or columns that a check refuses have the cause of the refusal, whichever check comes first.
use Rattle.std.proofs.Common.{◌≡◌, ◌⊎◌, inl, inr, ℤ, List, Bool, true, false, not, ◌||◌, if◌then◌else◌}
use Rattle.std.proofs.Common.{Option, Some, None, Ok, Err, codes, refl, subst}
use Rattle.words.specs.Steps.{err_is, bind_refused, map_ok, map_refused}
use Rattle.serde_json.specs.Data.{Members}
use Rattle.json_members.specs.Rows.{Lookup}
use Rattle.json_members.specs.Values.{number_or_0}
use Rattle.snapshot_entries.specs.declared.snapshot.Snapshot.{Snapshot}
use Rattle.snapshot_entries.specs.CauseLaws.{list_refused}
use Rattle.snapshot_entries.specs.FoundLaws.{snapshots_found}
use Rattle.snapshot_entries.specs.Keys.{has_keys}
use Rattle.snapshot_entries.specs.Reading.{snapshots_in}
use Rattle.snapshot_entries.specs.Relation.{AreSnapshotsOf}
use Rattle.schema_columns.specs.CauseLaws.{schema_refused}
use Rattle.schema_columns.specs.Reading.{columns_in}
use Rattle.metadata_reading.specs.declared.refusal.MetaRefusal.{MetaRefusal}
use Rattle.metadata_reading.specs.declared.refusal.MetaRefusal.TheVariants.{Wrong, Encrypted}
use Rattle.metadata_reading.specs.declared.refusal.MetaRefusal.TheVariants.{Partitioned}
use Rattle.metadata_reading.specs.Cause.{format_in, list_at, IsLast}
use Rattle.metadata_reading.specs.Cause.{IsRefused}
use Rattle.metadata_reading.specs.CheckLaws.{passed, Checked}
use Rattle.metadata_reading.specs.CurrentSchema.{IsSchemaId}
use Rattle.metadata_reading.specs.FirstLaws.{first_found, none_has}
use Rattle.metadata_reading.specs.NumberLaws.{last_found, schema_id_found}
use Rattle.metadata_reading.specs.Reading.{keys_checked, snapshots_of}
use Rattle.metadata_reading.specs.Reading.{columns_by, parts_by}
use Rattle.metadata_reading.specs.Refusal.{of_snapshots, of_columns}
use Rattle.metadata_reading.specs.Schemas.{schema_of, schema_columns, are_none, are_unpartitioned}
use Rattle.metadata_reading.specs.Schemas.{partitions_checked}
use Rattle.metadata_reading.specs.StepCauses.{failed, rule, list_cause, columns_cause}

-- ---- the snapshots and the columns

keys_failed : (none some : Bool) (refusal : MetaRefusal)
    → (if not none || some then Err Encrypted else passed) ≡ Err refusal
    → ((none ≡ false) ⊎ (some ≡ true)) × (Encrypted ≡ refusal)
keys_failed true true refusal is = (inr refl, err_is Encrypted refusal is)
keys_failed true false refusal is = absurd cc
keys_failed false some refusal is = (inl refl, err_is Encrypted refusal is)

-- the table or a snapshot has a key
keys_cause : (found : Lookup) (last : ℤ) (all : List Snapshot) (refusal : MetaRefusal) → IsLast found last
    → snapshots_of (format_in found) last (found (codes "snapshots")) ≡ Ok all
    → keys_checked (found (codes "encryption-keys")) all ≡ Err refusal → IsRefused found refusal
keys_cause found last all refusal is_last read is =
    let items = list_at (codes "snapshots") found in
    let p = keys_failed (are_none (list_at (codes "encryption-keys") found)) (has_keys all) refusal is in
    let here = snapshots_found (format_in found) last items all
    (map_ok of_snapshots (snapshots_in (format_in found) last items) all read) in
    subst (IsRefused found) p.1 (of_keys p.0 here)
  where
    of_keys : (are_none (list_at (codes "encryption-keys") found) ≡ false) ⊎ (has_keys all ≡ true)
        → AreSnapshotsOf (format_in found) last (list_at (codes "snapshots") found) all → IsRefused found Encrypted
    of_keys (inl table) here = inl table
    of_keys (inr some) here = inr (record { last = last; is_last = is_last; all = all; here = here; key = some })

partitions_cause : (found : Lookup) (refusal : MetaRefusal)
    → partitions_checked (list_at (codes "partition-specs") found) ≡ Err refusal → IsRefused found refusal
partitions_cause found refusal is =
    let p = failed (are_unpartitioned (list_at (codes "partition-specs") found)) Partitioned refusal is in
    subst (IsRefused found) p.1 p.0

-- no schema is the current one, or that one is refused
schema_cause : (found : Lookup) (id : ℤ) (schema : Option Members) (refusal : MetaRefusal) → IsSchemaId found id
    → schema_of id (list_at (codes "schemas") found) ≡ schema → schema_columns schema ≡ Err refusal
    → IsRefused found refusal
schema_cause found id None refusal here at is =
    let none = none_has id (list_at (codes "schemas") found) at in
    rule found (codes "current-schema-id") refusal (inr (inr (inl (refl, (id, here, none)))))
    (err_is (Wrong (codes "current-schema-id")) refusal is)
schema_cause found id (Some schema) refusal here at is =
    let p = map_refused of_columns (columns_in schema) refusal is in
    let first = first_found id (list_at (codes "schemas") found) schema at in
    subst (IsRefused found) p.2 (columns_cause found schema p.0 (id, here, first) (schema_refused schema p.0 p.1))

-- the snapshots or the columns are refused
pub parts_cause : (found : Lookup) (refusal : MetaRefusal) → Checked (format_in found) found
    → parts_by (format_in found) found ≡ Err refusal → IsRefused found refusal
parts_cause found refusal checked is =
    let version = format_in found in
    let is_last = last_found version found checked.first in
    let id = number_or_0 (found (codes "current-schema-id")) in
    let last = number_or_0 (found (codes "last-sequence-number")) in
    let items = list_at (codes "snapshots") found in
    bind_refused (snapshots_of version last (found (codes "snapshots"))) _ refusal is
    (λ here. let p = map_refused of_snapshots (snapshots_in version last items) refusal here in
    subst (IsRefused found) p.2 (list_cause found p.0 (last, is_last, list_refused version last items p.0 p.1)))
    (λ all read next. bind_refused (columns_by found all) _ refusal next
    (λ here. bind_refused (keys_checked (found (codes "encryption-keys")) all) _ refusal here
    (keys_cause found last all refusal is_last read)
    (λ w _ next. bind_refused (partitions_checked (list_at (codes "partition-specs") found)) _ refusal next
    (partitions_cause found refusal)
    (λ x _ next. schema_cause found id (schema_of id (list_at (codes "schemas") found)) refusal
    (schema_id_found version found checked.schema_id) refl next)))
    (λ columns _ never. absurd cc))
