-- A commit with a snapshot that may come next gives a table's metadata again.
use Rattle.std.proofs.Common.{◌≡◌, ℕ, ℤ, List}
use Rattle.std.proofs.Common.{true, false, Option, codes, refl, sym, ap, subst, ◌∙◌}
use Rattle.serde_json.specs.Data.{Data, Members, put}
use Rattle.serde_json.specs.Find.{get_member}
use Rattle.json_members.specs.declared.rows.Version.{Version}
use Rattle.json_members.specs.declared.rows.Version.TheVariants.{Older, Newer}
use Rattle.json_members.specs.FieldLaws.{get_fields}
use Rattle.json_members.specs.LackLaws.{lacks_left, lacks_put}
use Rattle.json_members.specs.MemberLaws.{get_kept}
use Rattle.json_members.specs.Meaning.{IsListIfAny, IsObjectIfAny}
use Rattle.json_members.specs.Members.{is_among, without, lacks, found_in}
use Rattle.json_members.specs.Plain.{ArePlain}
use Rattle.json_members.specs.PlainLaws.{plain_fields, plain_without, object_plain}
use Rattle.snapshot_entries.specs.declared.snapshot.Snapshot.{Snapshot}
use Rattle.snapshot_entries.specs.List.{are_apart}
use Rattle.metadata_reading.specs.declared.meta.TableMeta.{TableMeta}
use Rattle.metadata_reading.specs.Members.{known}
use Rattle.metadata_reading.specs.Relation.{ids, AreCarried}
use Rattle.metadata_reading.specs.Table.{IsTable}
use Rattle.metadata_reading.specs.Version.{format}
use Rattle.metadata_changes.specs.Logs.{members_in, snapshot_entry, metadata_entry, with_main}
use Rattle.metadata_changes.specs.Commit.{touched, log_with, changed_fields, changed_rest, with_snapshot}
use Rattle.metadata_changes.specs.MayCome.{MayCome}
use Rattle.metadata_changes.specs.CarriedLaws.{carried_kept, log_plain, snapshot_entry_plain, metadata_entry_plain}
use Rattle.metadata_changes.specs.CarriedLaws.{found_members, main_plain}
use Rattle.metadata_changes.specs.LastLaws.{all_with, unencrypted_with, few_with, apart_with, ids_with, current_with}

-- ---- carried members

kept : (name : List ℕ) (rest : Members) (path : List ℕ) (old id time : ℤ) → is_among name touched ≡ false
    → found_in name (changed_fields rest path old id time) (get_member name (without touched rest)) ≡ get_member name
    (without touched rest)
    → get_member name (changed_rest rest path old id time) ≡ get_member name rest
kept name rest path old id time other computes =
    get_fields name (changed_fields rest path old id time) (without touched rest) ∙ computes
    ∙ get_kept name touched rest other

carried_with : (rest : Members) (path : List ℕ) (old id time : ℤ) → (schema : ℤ) → (m : TableMeta)
    → AreCarried (λ name. get_member name rest) schema m.columns
    → AreCarried (λ name. get_member name (changed_rest rest path old id time)) schema m.columns
carried_with rest path old id time schema m h =
    let found = λ (name : List ℕ). get_fields name (changed_fields rest path old id time) (without touched rest) in
    carried_kept (λ name. get_member name rest) (λ name. get_member name (changed_rest rest path old id time)) schema
    m.columns
    (kept (codes "last-column-id") rest path old id time refl refl)
    (kept (codes "schemas") rest path old id time refl refl)
    (kept (codes "partition-specs") rest path old id time refl refl)
    (kept (codes "properties") rest path old id time refl refl)
    (kept (codes "encryption-keys") rest path old id time refl refl)
    (subst IsListIfAny (sym (found (codes "snapshot-log")))
    (log_with (codes "snapshot-log") rest (snapshot_entry id time), refl))
    (subst IsListIfAny (sym (found (codes "metadata-log")))
    (log_with (codes "metadata-log") rest (metadata_entry path old), refl))
    (subst IsObjectIfAny (sym (found (codes "refs")))
    (with_main id (members_in (get_member (codes "refs") rest)), refl)) h

lacks_three : (names : List (List ℕ)) (a b c : Data) (ms : Members) → is_among (codes "snapshot-log") names ≡ false
    → is_among (codes "metadata-log") names ≡ false → is_among (codes "refs") names ≡ false → lacks names ms ≡ true
    → lacks names (put (codes "snapshot-log") a (put (codes "metadata-log") b (put (codes "refs") c ms))) ≡ true
lacks_three names a b c ms p q r h =
    lacks_put names (codes "snapshot-log") a (put (codes "metadata-log") b (put (codes "refs") c ms)) p
    (lacks_put names (codes "metadata-log") b (put (codes "refs") c ms) q (lacks_put names (codes "refs") c ms r h))

lacks_with : (version : Version) (rest : Members) (path : List ℕ) (old id time : ℤ) → lacks (known version) rest ≡ true
    → lacks (known version) (changed_rest rest path old id time) ≡ true
lacks_with Older rest path old id time h = lacks_three (known Older) _ _ _ (without touched rest) refl refl refl
    (lacks_left (known Older) touched rest h)
lacks_with Newer rest path old id time h = lacks_three (known Newer) _ _ _ (without touched rest) refl refl refl
    (lacks_left (known Newer) touched rest h)

plain_with : (rest : Members) (path : List ℕ) (old id time : ℤ) → ArePlain 126 rest
    → ArePlain 126 (changed_rest rest path old id time)
plain_with rest path old id time h =
    plain_fields 126 (changed_fields rest path old id time) (without touched rest) (
      log_plain 124 rest (codes "snapshot-log") (snapshot_entry id time) h (snapshot_entry_plain 123 id time),
      (
        log_plain 124 rest (codes "metadata-log") (metadata_entry path old) h (metadata_entry_plain 123 path old),
        (object_plain 125 _ (main_plain 124 id _ (found_members 125 rest (codes "refs") _ refl h)), tt),
      ),
    )
    (plain_without 126 touched rest h)

-- the metadata after the commit is a table's
pub table_with : (m : TableMeta) (path : List ℕ) (s : Snapshot) (next : Option ℤ) → IsTable m → MayCome m s next
    → IsTable (with_snapshot m path s next)
table_with m path s next h may = record {
  version = h.version;
  last_sequence = may.snapshot.sequence;
  last_updated = may.snapshot.time;
  schema_id = h.schema_id;
  spec_id = h.spec_id;
  next_row_id = may.next_row_id;
  snapshots = all_with (format m.version) m.last_sequence s.sequence m.snapshots s may.sequence h.snapshots
      may.snapshot;
  few = few_with m.snapshots s may.few;
  distinct = ap are_apart (ids_with m.snapshots s) ∙ apart_with (ids m.snapshots) s.id h.distinct may.unused;
  current = current_with m.snapshots s may.snapshot.id;
  unencrypted = unencrypted_with m.snapshots s h.unencrypted may.unencrypted;
  carried = carried_with m.rest path m.last_updated s.id s.time m.schema_id m h.carried;
  lacks = lacks_with (format m.version) m.rest path m.last_updated s.id s.time h.lacks;
  plain = plain_with m.rest path m.last_updated s.id s.time h.plain;
}
