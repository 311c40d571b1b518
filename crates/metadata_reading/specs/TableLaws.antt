-- The metadata of a text is that of a table: it has a printed text that is read as it.
use Rattle.std.proofs.Common.{◌≡◌, ℕ, ℤ, negsuc, pos, ◌^◌, ◌-◌, int_lt, List, Bool, true, false, if◌then◌else◌}
use Rattle.std.proofs.Common.{Option, Some, None}
use Rattle.std.proofs.Common.{option_and_then, codes, refl, sym, subst}
use Rattle.serde_json.specs.Data.{Data, array, object, Items, no_items, Members}
use Rattle.serde_json.specs.Find.{get_member}
use Rattle.serde_json.proofs.Nesting.{depth-read}
use Rattle.json_members.specs.declared.rows.Version.{Version}
use Rattle.json_members.specs.declared.rows.Version.TheVariants.{Older, Newer}
use Rattle.json_members.specs.Form.{long_of, if_int, items_in}
use Rattle.json_members.specs.LackLaws.{lacks_without}
use Rattle.json_members.specs.Meaning.{IsListIfAny, IsObjectIfAny}
use Rattle.json_members.specs.MemberLaws.{get_kept}
use Rattle.json_members.specs.Members.{is_among, without, lacks}
use Rattle.json_members.specs.Plain.{IsPlain, ArePlain, ItemsArePlain}
use Rattle.json_members.specs.PlainLaws.{plain_without, plain_found, plain_object, plain_array, none_plain}
use Rattle.json_members.specs.ValueLaws.{long_if_found}
use Rattle.json_members.specs.Values.{number_in, int_in}
use Rattle.row_types.specs.declared.column.Column.{Column}
use Rattle.snapshot_entries.specs.declared.snapshot.Snapshot.{Snapshot}
use Rattle.snapshot_entries.specs.KeptLaws.{natural_kept, kept}
use Rattle.metadata_reading.specs.declared.meta.TableMeta.{TableMeta}
use Rattle.metadata_reading.specs.Members.{known}
use Rattle.metadata_reading.specs.Relation.{IsNextRowId, IsCurrent, HasSchema, AreUnpartitioned, AreCarried, IsMeta}
use Rattle.metadata_reading.specs.Relation.{IsMetaText}
use Rattle.metadata_reading.specs.Table.{IsNext, IsAmong, IsTable}
use Rattle.metadata_reading.specs.Version.{format}

-- ---- numbers

int_kept : (found : Option Data) (z : ℤ) → int_in found ≡ Some z → if_int z ≡ Some z
int_kept None z is = absurd cc
int_kept (Some value) z is = by_long (long_of value) is
  where
    by_test : (y : ℤ) (b c : Bool) → (if b then None else (if c then Some y else None)) ≡ Some z → y ≡ z
    by_test y true c is = absurd cc
    by_test y false true is = cc
    by_test y false false is = absurd cc

    by_long : (o : Option ℤ) → option_and_then if_int o ≡ Some z → if_int z ≡ Some z
    by_long None is = absurd cc
    by_long (Some y) is =
        subst (λ (n : ℤ). if_int n ≡ Some z)
        (by_test y (int_lt y (negsuc (2 ^ 31 - 1))) (int_lt y (pos (2 ^ 31))) is) is

next_kept : (version : Version) (found : Option Data) (next : Option ℤ) → IsNextRowId version found next
    → IsNext version next
next_kept Older found next is = is
next_kept Newer found None is = absurd is
next_kept Newer found (Some next) is = natural_kept found next is

among_kept : (found : Option Data) (snapshots : List Snapshot) (current : Option ℤ) → IsCurrent found snapshots current
    → IsAmong snapshots current
among_kept found snapshots None is = tt
among_kept found snapshots (Some id) is = is.1

-- ---- carried members

-- a member that no version keeps in a field is carried
left_found : (version : Version) (name : List ℕ) (ms : Members) → is_among name (known Older) ≡ false
    → is_among name (known Newer) ≡ false → get_member name ms ≡ get_member name (without (known version) ms)
left_found Older name ms older newer = sym (get_kept name (known Older) ms older)
left_found Newer name ms older newer = sym (get_kept name (known Newer) ms newer)

-- checked members are the same in what is left
carried_kept : (version : Version) (ms : Members) (id : ℤ) (columns : List Column)
    → AreCarried (λ name. get_member name ms) id columns
    → AreCarried (λ name. get_member name (without (known version) ms)) id columns
carried_kept version ms id columns h = record {
  last_column_id = subst (λ (o : Option Data). (z : ℤ) × (number_in o ≡ Some z))
      (left_found version (codes "last-column-id") ms refl refl) h.last_column_id;
  schemas = subst (λ (o : Option Data). HasSchema id o columns) (left_found version (codes "schemas") ms refl refl)
      h.schemas;
  specs = subst (λ (o : Option Data). (items : Items) × (o ≡ Some (array items)) × AreUnpartitioned items)
      (left_found version (codes "partition-specs") ms refl refl) h.specs;
  snapshot_log = subst IsListIfAny (left_found version (codes "snapshot-log") ms refl refl) h.snapshot_log;
  metadata_log = subst IsListIfAny (left_found version (codes "metadata-log") ms refl refl) h.metadata_log;
  refs = subst IsObjectIfAny (left_found version (codes "refs") ms refl refl) h.refs;
  properties = subst IsObjectIfAny (left_found version (codes "properties") ms refl refl) h.properties;
  encryption_keys = subst IsListIfAny (left_found version (codes "encryption-keys") ms refl refl) h.encryption_keys;
  no_keys = subst (λ (o : Option Data). items_in o ≡ no_items)
      (left_found version (codes "encryption-keys") ms refl refl) h.no_keys;
}

-- the items of a list among plain members
items_plain : (found : Option Data) → ((d : Data) → found ≡ Some d → IsPlain 126 d) → IsListIfAny found
    → ItemsArePlain 125 (items_in found)
items_plain None plain list = none_plain 125
items_plain (Some value) plain list =
    subst (λ (d : Data). ItemsArePlain 125 (items_in (Some d))) (sym list.1)
    (plain_array 125 list.0 (subst (IsPlain 126) list.1 (plain value refl)))

-- ---- metadata

-- the metadata of plain members
pub members_table : (ms : Members) (m : TableMeta) → ArePlain 126 ms → IsMeta ms m → IsTable m
members_table ms m plain h =
    let version = format m.version in
    let snapshots = get_member (codes "snapshots") ms in
    let items = items_plain snapshots (λ d found. plain_found 126 (codes "snapshots") ms d plain found) h.is_list in
    record {
      version = h.two_or_three;
      last_sequence = natural_kept (get_member (codes "last-sequence-number") ms) m.last_sequence h.last_sequence;
      last_updated = long_if_found (get_member (codes "last-updated-ms") ms) m.last_updated h.last_updated;
      schema_id = long_if_found (get_member (codes "current-schema-id") ms) m.schema_id h.schema_id;
      spec_id = int_kept (get_member (codes "default-spec-id") ms) m.spec_id h.spec_id;
      next_row_id = next_kept version (get_member (codes "next-row-id") ms) m.next_row_id h.next_row_id;
      snapshots = kept version m.last_sequence (items_in snapshots) m.snapshots items h.snapshots;
      few = h.snapshots.few;
      distinct = h.distinct;
      current = among_kept (get_member (codes "current-snapshot-id") ms) m.snapshots m.current h.current;
      unencrypted = h.unencrypted;
      carried = subst (λ (rest : Members). AreCarried (λ name. get_member name rest) m.schema_id m.columns) h.rest
          (carried_kept version ms m.schema_id m.columns h.carried);
      lacks = subst (λ (rest : Members). lacks (known version) rest ≡ true) h.rest (lacks_without (known version) ms);
      plain = subst (ArePlain 126) h.rest (plain_without 126 (known version) ms plain);
    }

-- the metadata of a text
pub text_table : (text : List ℕ) (m : TableMeta) → IsMetaText text m → IsTable m
text_table text m h =
    let plain : IsPlain 127 (object h.members) =
    record { shallow = depth-read text (object h.members) h.json; whole = h.whole } in
    members_table h.members m (plain_object 126 h.members plain) h.meta
