-- The record of what is found is the metadata.
use Rattle.std.proofs.Common.{◌≡◌, ℕ, ℤ, pos, negsuc, List, Bool, true, false, if◌then◌else◌, Option, Some}
use Rattle.std.proofs.Common.{None, codes, sym, ap}
use Rattle.std.specs.Prelude.{◌^◌, ◌-◌, int_lt, option_and_then}
use Rattle.serde_json.specs.Data.{Data, Members}
use Rattle.json_members.specs.declared.form.Form.TheVariants.{Int, List as ListForm}
use Rattle.json_members.specs.declared.rows.Keep.TheVariants.{InField}
use Rattle.json_members.specs.declared.rows.Need.TheVariants.{Needed, MayBeAbsent}
use Rattle.json_members.specs.declared.rows.Version.{Version}
use Rattle.json_members.specs.declared.rows.Version.TheVariants.{Older, Newer}
use Rattle.json_members.specs.Form.{items_in, long_of, if_int}
use Rattle.json_members.specs.MeaningLaws as meaning
use Rattle.json_members.specs.Rows.{Lookup, AreRight}
use Rattle.json_members.specs.Values.{number_in, int_in, number_since, text_or_empty}
use Rattle.row_types.specs.declared.column.Column.{Column}
use Rattle.snapshot_entries.specs.declared.snapshot.Snapshot.{Snapshot}
use Rattle.snapshot_entries.specs.EntryLaws.{entries_ids}
use Rattle.metadata_reading.specs.declared.meta.TableMeta.{TableMeta}
use Rattle.metadata_reading.specs.CurrentLaws.{found_current}
use Rattle.metadata_reading.specs.Members.{part}
use Rattle.metadata_reading.specs.Reading.{meta_with}
use Rattle.metadata_reading.specs.Relation.{IsNextRowId, IsFound}
use Rattle.metadata_reading.specs.Version.{format}
use Rattle.metadata_reading.specs.FoundLaws.{IsRight}

-- ---- numbers

-- the next row id that is found is read
pub found_next : (version : Version) (found : Lookup) (next : Option ℤ)
    → IsRight Needed Int InField (codes "default-spec-id") found
    → IsRight MayBeAbsent ListForm InField (codes "snapshots") found
    → IsNextRowId version (found (codes "next-row-id")) next
    → AreRight found (part 9 3 version) × (number_since version (found (codes "next-row-id")) ≡ next)
found_next Older found next spec snapshots is = ((spec, (snapshots, tt)), sym is)
found_next Newer found None spec snapshots is = absurd is
found_next Newer found (Some next) spec snapshots is = (
  (
    spec,
    (
      meaning.found_natural (codes "next-row-id") Newer InField (found (codes "next-row-id")) next is,
      (snapshots, tt),
    ),
  ),
  meaning.natural_is_number (found (codes "next-row-id")) next is,
)

-- a number of 32 bits is a number
int_is_number : (found : Option Data) (z : ℤ) → int_in found ≡ Some z → number_in found ≡ Some z
int_is_number None z is = absurd cc
int_is_number (Some value) z is = passed_int (long_of value) z is
  where
    passed_int : (o : Option ℤ) (z : ℤ) → option_and_then if_int o ≡ Some z → o ≡ Some z
    passed_int None z is = absurd cc
    passed_int (Some y) z is = by_tests (int_lt y (negsuc (2 ^ 31 - 1))) (int_lt y (pos (2 ^ 31))) is
      where
        by_tests : (b c : Bool) → (if b then None else (if c then Some y else None)) ≡ Some z → Some y ≡ Some z
        by_tests true c is = absurd cc
        by_tests false true is = is
        by_tests false false is = absurd cc

-- ---- the record

abbrev made : ℕ → List ℕ → List Snapshot → List Column → List ℕ → ℤ → ℤ → ℤ → ℤ → Option ℤ → Option ℤ → Members
    → TableMeta
made version uuid snapshots columns location last_sequence last_updated schema_id spec_id next_row_id current rest =
    record {
      version = version;
      uuid = uuid;
      location = location;
      last_sequence = last_sequence;
      last_updated = last_updated;
      columns = columns;
      schema_id = schema_id;
      spec_id = spec_id;
      next_row_id = next_row_id;
      current = current;
      snapshots = snapshots;
      rest = rest;
    }

same_eight : {A B C D E F G H I : Type 0} (f : A → B → C → D → E → F → G → H → I) (a a' : A) (b b' : B) (c c' : C)
    (d d' : D) (e e' : E) (g g' : F) (h h' : G) (i i' : H) → a ≡ a' → b ≡ b' → c ≡ c' → d ≡ d' → e ≡ e' → g ≡ g'
    → h ≡ h' → i ≡ i' → f a b c d e g h i ≡ f a' b' c' d' e' g' h' i'
same_eight f a a' b b' c c' d d' e e' g g' h h' i i' p q r s t u v w = cc

-- the record of what is found is the metadata
pub record_is : (found : Lookup) (left : Version → Members) (m : TableMeta) → IsFound found left m
    → meta_with found (left (format m.version)) (m.version, m.uuid) (m.snapshots, m.columns) ≡ m
record_is found left m h =
    let version = format m.version in
    let next = found_next version found m.next_row_id
    (meaning.found_int (codes "default-spec-id") Older InField (found (codes "default-spec-id")) m.spec_id h.spec_id)
    (meaning.any_list (codes "snapshots") Older InField (found (codes "snapshots")) h.is_list) h.next_row_id in
    let items = items_in (found (codes "snapshots")) in
    let same = entries_ids version m.last_sequence items m.snapshots h.snapshots.entries in
    let current = found_current (found (codes "current-snapshot-id")) items m.snapshots m.current same h.current in
    same_eight (made m.version m.uuid m.snapshots m.columns) _ m.location _ m.last_sequence _ m.last_updated
    _ m.schema_id _ m.spec_id _ m.next_row_id _ m.current (left version) m.rest
    (ap text_or_empty h.location)
    (meaning.or_0 (found (codes "last-sequence-number")) m.last_sequence
    (meaning.natural_is_number (found (codes "last-sequence-number")) m.last_sequence h.last_sequence))
    (meaning.or_0 (found (codes "last-updated-ms")) m.last_updated h.last_updated)
    (meaning.or_0 (found (codes "current-schema-id")) m.schema_id h.schema_id)
    (meaning.or_0 (found (codes "default-spec-id")) m.spec_id
    (int_is_number (found (codes "default-spec-id")) m.spec_id h.spec_id))
    next.1 current.value h.rest
