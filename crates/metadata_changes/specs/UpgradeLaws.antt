-- An upgrade of a table's metadata of version 2 gives a table's metadata again.
use Rattle.std.proofs.Common.{◌≡◌, ℕ, ℤ, length, List, [], ◌∷◌, true, false, Option}
use Rattle.std.proofs.Common.{Some, None, codes, map, inr, refl, sym, ap, subst, ◌∙◌, arith}
use Rattle.serde_json.specs.Data.{array, Members}
use Rattle.serde_json.specs.Find.{get_member}
use Rattle.json_members.specs.declared.rows.Version.TheVariants.{Older, Newer}
use Rattle.json_members.specs.Form.{is_long}
use Rattle.json_members.specs.FieldLaws.{get_fields}
use Rattle.json_members.specs.LackLaws.{lacks_put, lacks_left}
use Rattle.json_members.specs.MemberLaws.{get_kept, without_more}
use Rattle.json_members.specs.Meaning.{IsListIfAny, IsObjectIfAny}
use Rattle.json_members.specs.Members.{is_among, without, lacks, found_in}
use Rattle.json_members.specs.PlainLaws.{plain_fields, plain_without}
use Rattle.snapshot_entries.specs.declared.snapshot.Snapshot.{Snapshot}
use Rattle.snapshot_entries.specs.Keys.{AreUnencrypted}
use Rattle.snapshot_entries.specs.List.{are_apart, has_id}
use Rattle.snapshot_entries.specs.Snapshot.{IsSnapshot, AreSnapshots, IsNewNumber}
use Rattle.json_members.specs.Meaning.{IsUnset}
use Rattle.metadata_reading.specs.declared.meta.TableMeta.{TableMeta}
use Rattle.metadata_reading.specs.Members.{known}
use Rattle.metadata_reading.specs.Relation.{ids, AreCarried}
use Rattle.metadata_reading.specs.Table.{IsTable, IsAmong}
use Rattle.metadata_reading.specs.Version.{format}
use Rattle.metadata_changes.specs.Logs.{metadata_entry}
use Rattle.metadata_changes.specs.NumberLaws.{larger_long}
use Rattle.metadata_changes.specs.Commit.{log_with}
use Rattle.metadata_changes.specs.Upgrade.{new_in_snapshots, upgraded_snapshot, upgraded_fields, upgraded_rest}
use Rattle.metadata_changes.specs.Upgrade.{upgraded}
use Rattle.metadata_changes.specs.CarriedLaws.{carried_kept, log_plain, metadata_entry_plain}
use Rattle.metadata_changes.specs.NameLaws.{lacks_between}

-- ---- snapshots

new_snapshot : (last : ℤ) (s : Snapshot) → IsSnapshot Older last s → IsSnapshot Newer last (upgraded_snapshot s)
new_snapshot last s h = record {
  id = h.id;
  parent = h.parent;
  sequence = h.sequence;
  passed = h.passed;
  time = h.time;
  schema_id = h.schema_id;
  first_row_id = subst (IsNewNumber Newer) (sym h.first_row_id) tt;
  added_rows = subst (IsNewNumber Newer) (sym h.added_rows) tt;
  path = h.path;
  carried = lacks_between (codes "snapshot-id" ∷ codes "timestamp-ms" ∷ codes "sequence-number" ∷ codes
      "parent-snapshot-id" ∷ codes "schema-id" ∷ []) new_in_snapshots (codes "manifest-list" ∷ []) s.rest h.carried;
  plain = plain_without 124 new_in_snapshots s.rest h.plain;
}

new_snapshots : (last : ℤ) (snapshots : List Snapshot) → AreSnapshots Older last snapshots
    → AreSnapshots Newer last (map upgraded_snapshot snapshots)
new_snapshots last [] h = tt
new_snapshots last (s ∷ snapshots) h = (new_snapshot last s h.0, new_snapshots last snapshots h.1)

unencrypted_still : (snapshots : List Snapshot) → AreUnencrypted snapshots
    → AreUnencrypted (map upgraded_snapshot snapshots)
unencrypted_still [] h = tt
unencrypted_still (s ∷ snapshots) h =
    (subst IsUnset (sym (get_kept (codes "key-id") new_in_snapshots s.rest refl)) h.0, unencrypted_still snapshots h.1)

same_ids : (snapshots : List Snapshot) → ids (map upgraded_snapshot snapshots) ≡ ids snapshots
same_ids [] = refl
same_ids (s ∷ snapshots) = ap (λ (all : List ℤ). s.id ∷ all) (same_ids snapshots)

same_length : (snapshots : List Snapshot) → length (map upgraded_snapshot snapshots) ≡ length snapshots
same_length [] = refl
same_length (s ∷ snapshots) = omega (arith, same_length snapshots)

among_still : (snapshots : List Snapshot) (current : Option ℤ) → IsAmong snapshots current
    → IsAmong (map upgraded_snapshot snapshots) current
among_still snapshots None h = tt
among_still snapshots (Some id) h = record {
  among = ap (λ (all : List ℤ). has_id all id) (same_ids snapshots) ∙ h.among;
  set = h.set;
}

-- ---- carried members

kept : (name : List ℕ) (rest : Members) (path : List ℕ) (old : ℤ)
    → is_among name (codes "metadata-log" ∷ codes "next-row-id" ∷ []) ≡ false
    → found_in name (upgraded_fields rest path old)
    (get_member name (without (codes "metadata-log" ∷ codes "next-row-id" ∷ []) rest)) ≡ get_member name
    (without (codes "metadata-log" ∷ codes "next-row-id" ∷ []) rest)
    → get_member name (upgraded_rest rest path old) ≡ get_member name rest
kept name rest path old other computes =
    get_fields name (upgraded_fields rest path old) (without (codes "metadata-log" ∷ codes "next-row-id" ∷ []) rest)
    ∙ computes ∙ get_kept name (codes "metadata-log" ∷ codes "next-row-id" ∷ []) rest other

carried_still : (rest : Members) (path : List ℕ) (old schema : ℤ) (m : TableMeta)
    → AreCarried (λ name. get_member name rest) schema m.columns
    → AreCarried (λ name. get_member name (upgraded_rest rest path old)) schema m.columns
carried_still rest path old schema m h =
    carried_kept (λ name. get_member name rest) (λ name. get_member name (upgraded_rest rest path old)) schema m.columns
    (kept (codes "last-column-id") rest path old refl refl) (kept (codes "schemas") rest path old refl refl)
    (kept (codes "partition-specs") rest path old refl refl)
    (kept (codes "properties") rest path old refl refl) (kept (codes "encryption-keys") rest path old refl refl)
    (subst IsListIfAny (sym (kept (codes "snapshot-log") rest path old refl refl)) h.snapshot_log)
    (subst IsListIfAny (sym (get_fields (codes "metadata-log") (upgraded_fields rest path old)
    (without (codes "metadata-log" ∷ codes "next-row-id" ∷ []) rest)))
    (log_with (codes "metadata-log") rest (metadata_entry path old), refl))
    (subst IsObjectIfAny (sym (kept (codes "refs") rest path old refl refl)) h.refs) h

lacks_still : (rest : Members) (path : List ℕ) (old : ℤ) → lacks (known Older) rest ≡ true
    → lacks (known Newer) (upgraded_rest rest path old) ≡ true
lacks_still rest path old h =
    lacks_put (known Newer) (codes "metadata-log")
    (array (log_with (codes "metadata-log") rest (metadata_entry path old)))
    (without (codes "metadata-log" ∷ codes "next-row-id" ∷ []) rest) refl
    (ap (lacks (known Newer)) (sym (without_more (codes "metadata-log") (codes "next-row-id" ∷ []) rest))
    ∙ lacks_between (codes "format-version" ∷ codes "table-uuid" ∷ codes "location" ∷ codes "last-sequence-number" ∷
    codes "last-updated-ms" ∷ codes "current-schema-id" ∷ codes "default-spec-id" ∷ [])
    (codes "next-row-id" ∷ []) (codes "snapshots" ∷ codes "current-snapshot-id" ∷ [])
    (without (codes "metadata-log" ∷ []) rest) (lacks_left (known Older) (codes "metadata-log" ∷ []) rest h))

-- the metadata after the upgrade is a table's
pub table_still : (m : TableMeta) (path : List ℕ) (now : ℤ) → is_long now ≡ true → IsTable m → m.version ≡ 2
    → IsTable (upgraded m path now)
table_still m path now long h two = record {
  version = inr refl;
  last_sequence = h.last_sequence;
  last_updated = larger_long m.last_updated now h.last_updated long;
  schema_id = h.schema_id;
  spec_id = h.spec_id;
  next_row_id = record { fits = refl; least = refl };
  snapshots = new_snapshots m.last_sequence m.snapshots
      (subst (λ (v : ℕ). AreSnapshots (format v) m.last_sequence m.snapshots) two h.snapshots);
  few = omega (arith, same_length m.snapshots, h.few);
  distinct = ap are_apart (same_ids m.snapshots) ∙ h.distinct;
  current = among_still m.snapshots m.current h.current;
  unencrypted = unencrypted_still m.snapshots h.unencrypted;
  carried = carried_still m.rest path m.last_updated m.schema_id m h.carried;
  lacks = lacks_still m.rest path m.last_updated
      (subst (λ (v : ℕ). lacks (known (format v)) m.rest ≡ true) two h.lacks);
  plain = plain_fields 126 (upgraded_fields m.rest path m.last_updated) _ (
    log_plain 124 m.rest (codes "metadata-log") (metadata_entry path m.last_updated) h.plain
        (metadata_entry_plain 123 path m.last_updated),
    tt,
  )
      (plain_without 126 (codes "metadata-log" ∷ codes "next-row-id" ∷ []) m.rest h.plain);
}
