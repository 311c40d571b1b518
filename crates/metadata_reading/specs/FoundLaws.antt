-- What is read of a text is its metadata, and the metadata of a text is read.
use Rattle.std.proofs.Common.{◌≡◌, ℕ, List, true}
use Rattle.std.proofs.Common.{Ok, codes, refl, sym, ap, subst, ◌∙◌}
use Rattle.words.specs.Steps.{bind_ok, ok_is}
use Rattle.serde_json.specs.Data.{Items, no_items, item, Members}
use Rattle.json_members.specs.declared.form.Form.{Form}
use Rattle.json_members.specs.declared.form.Form.TheVariants.{Int, List as ListForm}
use Rattle.json_members.specs.declared.rows.Keep.{Keep}
use Rattle.json_members.specs.declared.rows.Keep.TheVariants.{InField, Carried}
use Rattle.json_members.specs.declared.rows.Need.{Need}
use Rattle.json_members.specs.declared.rows.Need.TheVariants.{Needed, MayBeAbsent}
use Rattle.json_members.specs.declared.rows.Version.{Version}
use Rattle.json_members.specs.declared.rows.Version.TheVariants.{Older, Newer}
use Rattle.json_members.specs.FieldLaws.{both}
use Rattle.json_members.specs.Form.{items_in}
use Rattle.json_members.specs.MeaningLaws as meaning
use Rattle.json_members.specs.Rows.{Lookup, AreRight, tested}
use Rattle.json_members.specs.Values.{number_in, number_or_0, number_since}
use Rattle.row_types.specs.declared.column.Column.{Column}
use Rattle.snapshot_entries.specs.declared.snapshot.Snapshot.{Snapshot}
use Rattle.snapshot_entries.specs.EntryLaws.{entries_ids}
use Rattle.snapshot_entries.specs.List.{are_objects, ids_of, are_apart}
use Rattle.metadata_reading.specs.declared.meta.TableMeta.{TableMeta}
use Rattle.metadata_reading.specs.CheckLaws.{in_both, Checked}
use Rattle.metadata_reading.specs.CurrentLaws.{current_found}
use Rattle.metadata_reading.specs.PartLaws.{HeadIsFound, head_found, PartsAreFound, parts_found}
use Rattle.metadata_reading.specs.Members.{part}
use Rattle.metadata_reading.specs.Reading.{head_by, parts_by, meta_with, meta_by}
use Rattle.metadata_reading.specs.Relation.{IsNextRowId, AreCarried, IsFound}
use Rattle.metadata_reading.specs.SchemaLaws.{columns_found, specs_found}
use Rattle.metadata_reading.specs.Schemas.{are_none}
use Rattle.metadata_reading.specs.Version.{format}

-- ---- the members of one object

-- the row of a member that both versions have is right
abbrev pub IsRight : Need → Form → Keep → List ℕ → Lookup → Type 0
IsRight need form keep name found = tested (meaning.row_of need form name Older keep) (found name) ≡ Ok tt

-- the next row id is the one that is read
next_found : (version : Version) (found : Lookup) → AreRight found (part 9 3 version)
    → IsNextRowId version (found (codes "next-row-id")) (number_since version (found (codes "next-row-id")))
next_found Older found right = refl
next_found Newer found right =
    let next = found (codes "next-row-id") in
    let natural = meaning.natural_found (codes "next-row-id") Newer InField next right.1.0 in
    subst (IsNextRowId Newer next) (sym (meaning.natural_is_number next (number_or_0 next) natural)) natural

-- the rows beside it are in both versions
beside_next : (version : Version) (found : Lookup) → AreRight found (part 9 3 version)
    → IsRight Needed Int InField (codes "default-spec-id") found
    × IsRight MayBeAbsent ListForm InField (codes "snapshots") found
beside_next Older found right = (right.0, right.1.0)
beside_next Newer found right = (right.0, right.1.1.0)

no_items_are : (items : Items) → are_none items ≡ true → items ≡ no_items
no_items_are no_items is = refl
no_items_are (item value items) is = absurd cc

-- what is checked and carried
carried_found : (version : Version) (found : Lookup) (parts : List Snapshot × List Column) → Checked version found
    → PartsAreFound version found parts
    → AreCarried found (number_or_0 (found (codes "current-schema-id"))) parts.1
carried_found version found parts h p =
    let first = subst (AreRight found) (in_both 2 5 refl version) h.first in
    let specs_row = subst (AreRight found) (in_both 8 1 refl version) h.partition_specs in
    let last = subst (AreRight found) (in_both 13 5 refl version) h.last in
    let schemas = found (codes "schemas") in
    let schemas_list = meaning.list_found (codes "schemas") Older Carried schemas first.1.1.1.1.0 in
    let specs = found (codes "partition-specs") in
    record {
      last_column_id = (
        number_or_0 (found (codes "last-column-id")),
        meaning.long_found (codes "last-column-id") Older Carried (found (codes "last-column-id")) first.1.1.1.0,
      );
      schemas = columns_found (number_or_0 (found (codes "current-schema-id"))) schemas parts.1 schemas_list h.schemas
          p.columns;
      specs = (
        items_in specs,
        meaning.list_found (codes "partition-specs") Older Carried specs specs_row.0,
        specs_found (items_in specs) h.specs p.unpartitioned,
      );
      snapshot_log = meaning.list_if_any (codes "snapshot-log") Older Carried (found (codes "snapshot-log")) last.0;
      metadata_log = meaning.list_if_any (codes "metadata-log") Older Carried (found (codes "metadata-log")) last.1.0;
      refs = meaning.object_if_any (codes "refs") Older Carried (found (codes "refs")) last.1.1.0;
      properties = meaning.object_if_any (codes "properties") Older Carried (found (codes "properties")) last.1.1.1.0;
      encryption_keys = meaning.list_if_any (codes "encryption-keys") Older Carried (found (codes "encryption-keys"))
          last.1.1.1.1.0;
      no_keys = no_items_are (items_in (found (codes "encryption-keys"))) p.no_keys;
    }

-- the metadata of a head and of parts that are found
with_found : (found : Lookup) (left : Version → Members) (head : ℕ × List ℕ) (parts : List Snapshot × List Column)
    → HeadIsFound found head → PartsAreFound (format head.0) found parts
    → IsFound found left (meta_with found (left (format head.0)) head parts)
with_found found left head parts h p =
    let version = format head.0 in
    let first = subst (AreRight found) (in_both 2 5 refl version) h.checked.first in
    let schema_id = subst (AreRight found) (in_both 7 1 refl version) h.checked.schema_id in
    let current_id = subst (AreRight found) (in_both 12 1 refl version) h.checked.current_id in
    let beside = beside_next version found h.checked.numbers in
    let items = items_in (found (codes "snapshots")) in
    let last = number_or_0 (found (codes "last-sequence-number")) in
    let same = entries_ids version last items parts.0 p.snapshots.entries in
    let current = found (codes "current-snapshot-id") in
    let set = meaning.long_if_set (codes "current-snapshot-id") Older InField current current_id.0 in
    let distinct = (both (are_objects items) (are_apart (ids_of items)) h.checked.ids).1 in
    record {
      version = h.version;
      two_or_three = h.two_or_three;
      uuid = h.uuid;
      location = meaning.text_found (codes "location") Older InField (found (codes "location")) first.0;
      last_sequence = meaning.natural_found (codes "last-sequence-number") Older InField
          (found (codes "last-sequence-number")) first.1.0;
      last_updated = meaning.long_found (codes "last-updated-ms") Older InField (found (codes "last-updated-ms"))
          first.1.1.0;
      schema_id = meaning.long_found (codes "current-schema-id") Older InField (found (codes "current-schema-id"))
          schema_id.0;
      spec_id = meaning.int_found (codes "default-spec-id") Older InField (found (codes "default-spec-id")) beside.0;
      next_row_id = next_found version found h.checked.numbers;
      is_list = meaning.list_if_any (codes "snapshots") Older InField (found (codes "snapshots")) beside.1;
      snapshots = p.snapshots;
      distinct = ap are_apart (sym same) ∙ distinct;
      current = current_found current items parts.0 (number_in current) refl set same h.checked.current;
      carried = carried_found version found parts h.checked p;
      unencrypted = p.unencrypted;
      rest = refl;
    }

-- the metadata that is read is what is found
pub meta_found : (found : Lookup) (left : Version → Members) (m : TableMeta) → meta_by found left ≡ Ok m
    → IsFound found left m
meta_found found left m is =
    let a = bind_ok (head_by found) _ m is in
    let b = bind_ok (parts_by (format a.0.0) found) _ m a.2 in
    subst (IsFound found left) (ok_is (meta_with found (left (format a.0.0)) a.0 b.0) m b.2)
    (with_found found left a.0 b.0 (head_found found a.0 a.1) (parts_found (format a.0.0) found b.0 b.1))
