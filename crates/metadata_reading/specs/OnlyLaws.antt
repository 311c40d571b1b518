-- The metadata that is found is read.
use Rattle.std.proofs.Common.{◌≡◌, ℤ, Bool, true, Option, Some}
use Rattle.std.proofs.Common.{is_some, Ok, codes, refl, sym, ap, ap₂, subst, ◌∙◌}
use Rattle.std.specs.Prelude.{◌&&◌}
use Rattle.words.specs.Steps.{bind_only}
use Rattle.serde_json.specs.Data.{Data, Items, no_items, Members}
use Rattle.json_members.specs.declared.rows.Keep.TheVariants.{InField, Carried}
use Rattle.json_members.specs.declared.rows.Version.{Version}
use Rattle.json_members.specs.declared.rows.Version.TheVariants.{Older}
use Rattle.json_members.specs.Form.{items_in}
use Rattle.json_members.specs.MeaningLaws as meaning
use Rattle.json_members.specs.Rows.{Lookup, AreRight}
use Rattle.json_members.specs.Values.{number_or_0}
use Rattle.snapshot_entries.specs.EntryLaws.{entries_objects, entries_ids}
use Rattle.snapshot_entries.specs.List.{are_apart}
use Rattle.snapshot_entries.specs.Relation.{AreSnapshotsOf}
use Rattle.metadata_reading.specs.declared.meta.TableMeta.{TableMeta}
use Rattle.metadata_reading.specs.CheckLaws.{in_both, Checked}
use Rattle.metadata_reading.specs.CurrentLaws.{found_current}
use Rattle.metadata_reading.specs.FirstLaws.{found_first}
use Rattle.metadata_reading.specs.PartLaws.{found_head, PartsAreFound, found_parts}
use Rattle.metadata_reading.specs.Members.{part}
use Rattle.metadata_reading.specs.Reading.{current_checked}
use Rattle.metadata_reading.specs.Reading.{meta_by}
use Rattle.metadata_reading.specs.Relation.{IsFound}
use Rattle.metadata_reading.specs.SchemaLaws.{found_columns, found_specs, found_schemas}
use Rattle.metadata_reading.specs.Schemas.{are_schemas, schema_of, schema_columns, are_specs, are_none}
use Rattle.metadata_reading.specs.Schemas.{are_unpartitioned}
use Rattle.metadata_reading.specs.Version.{format}
use Rattle.metadata_reading.specs.RecordLaws.{found_next, record_is}

-- a list of no items
none_are : (items : Items) → items ≡ no_items → are_none items ≡ true
none_are items is = ap are_none is

-- all checks pass
members_checked : (found : Lookup) (left : Version → Members) (m : TableMeta) → IsFound found left m
    → Checked (format m.version) found
members_checked found left m h =
    let version = format m.version in
    let first : AreRight found (part 2 5 Older) = (
      meaning.found_text (codes "location") Older InField (found (codes "location")) m.location h.location,
      (
        meaning.found_natural (codes "last-sequence-number") Older InField (found (codes "last-sequence-number"))
            m.last_sequence h.last_sequence,
        (
          meaning.found_long (codes "last-updated-ms") Older InField (found (codes "last-updated-ms")) m.last_updated
              h.last_updated,
          (
            meaning.found_long (codes "last-column-id") Older Carried (found (codes "last-column-id"))
                h.carried.last_column_id.0 h.carried.last_column_id.1,
            (
              meaning.found_list (codes "schemas") Older Carried (found (codes "schemas")) h.carried.schemas.items
                  h.carried.schemas.is_list,
              tt,
            ),
          ),
        ),
      ),
    ) in
    let schema_id : AreRight found (part 7 1 Older) = (
      meaning.found_long (codes "current-schema-id") Older InField (found (codes "current-schema-id")) m.schema_id
          h.schema_id,
      tt,
    ) in
    let specs_row : AreRight found (part 8 1 Older) = (
      meaning.found_list (codes "partition-specs") Older Carried (found (codes "partition-specs")) h.carried.specs.0
          h.carried.specs.1,
      tt,
    ) in
    let last : AreRight found (part 13 5 Older) = (
      meaning.any_list (codes "snapshot-log") Older Carried (found (codes "snapshot-log")) h.carried.snapshot_log,
      (
        meaning.any_list (codes "metadata-log") Older Carried (found (codes "metadata-log")) h.carried.metadata_log,
        (
          meaning.any_object (codes "refs") Older Carried (found (codes "refs")) h.carried.refs,
          (
            meaning.any_object (codes "properties") Older Carried (found (codes "properties")) h.carried.properties,
            (
              meaning.any_list (codes "encryption-keys") Older Carried (found (codes "encryption-keys"))
                  h.carried.encryption_keys,
              tt,
            ),
          ),
        ),
      ),
    ) in
    let next = found_next version found m.next_row_id
    (meaning.found_int (codes "default-spec-id") Older InField (found (codes "default-spec-id")) m.spec_id h.spec_id)
    (meaning.any_list (codes "snapshots") Older InField (found (codes "snapshots")) h.is_list) h.next_row_id in
    let items = items_in (found (codes "snapshots")) in
    let same = entries_ids version m.last_sequence items m.snapshots h.snapshots.entries in
    let current = found_current (found (codes "current-snapshot-id")) items m.snapshots m.current same h.current in
    let current_id : AreRight found (part 12 1 Older) = (current.row, tt) in
    let schemas = ap (λ (o : Option Data). are_schemas (items_in o)) h.carried.schemas.is_list
    ∙ found_schemas h.carried.schemas.items h.carried.schemas.each in
    let schema : schema_of (number_or_0 (found (codes "current-schema-id"))) (items_in (found (codes "schemas")))
    ≡ Some h.carried.schemas.schema =
    ap₂ (λ (id : ℤ) (o : Option Data). schema_of id (items_in o))
    (meaning.or_0 (found (codes "current-schema-id")) m.schema_id h.schema_id) h.carried.schemas.is_list
    ∙ found_first m.schema_id h.carried.schemas.items h.carried.schemas.schema h.carried.schemas.current in
    let specs = ap (λ (o : Option Data). are_specs (items_in o)) h.carried.specs.1
    ∙ (found_specs h.carried.specs.0 h.carried.specs.2).0 in
    let objects = entries_objects version m.last_sequence items m.snapshots h.snapshots.entries in
    let apart = ap are_apart same ∙ h.distinct in
    record {
      first = subst (AreRight found) (sym (in_both 2 5 refl version)) first;
      schemas = schemas;
      schema_id = subst (AreRight found) (sym (in_both 7 1 refl version)) schema_id;
      schema = ap is_some schema;
      partition_specs = subst (AreRight found) (sym (in_both 8 1 refl version)) specs_row;
      specs = specs;
      numbers = next.0;
      ids = ap₂ (λ (b c : Bool). b && c) objects apart;
      current_id = subst (AreRight found) (sym (in_both 12 1 refl version)) current_id;
      current = ap (λ (o : Option ℤ). current_checked o items) current.value ∙ current.checked;
      last = subst (AreRight found) (sym (in_both 13 5 refl version)) last;
    }

-- the snapshots and the columns are read
parts_read : (found : Lookup) (left : Version → Members) (m : TableMeta) → IsFound found left m
    → PartsAreFound (format m.version) found (m.snapshots, m.columns)
parts_read found left m h =
    let version = format m.version in
    let items = items_in (found (codes "snapshots")) in
    let last = meaning.or_0 (found (codes "last-sequence-number")) m.last_sequence
    (meaning.natural_is_number (found (codes "last-sequence-number")) m.last_sequence h.last_sequence) in
    let id = meaning.or_0 (found (codes "current-schema-id")) m.schema_id h.schema_id in
    let schemas = items_in (found (codes "schemas")) in
    record {
      snapshots = subst (λ (z : ℤ). AreSnapshotsOf version z items m.snapshots) (sym last) h.snapshots;
      no_keys = none_are (items_in (found (codes "encryption-keys"))) h.carried.no_keys;
      unencrypted = h.unencrypted;
      unpartitioned = ap (λ (o : Option Data). are_unpartitioned (items_in o)) h.carried.specs.1
          ∙ (found_specs h.carried.specs.0 h.carried.specs.2).1;
      columns = ap (λ (z : ℤ). schema_columns (schema_of z schemas)) id
          ∙ found_columns m.schema_id (found (codes "schemas")) m.columns h.carried.schemas;
    }

-- the metadata that is found is read
pub meta_only : (found : Lookup) (left : Version → Members) (m : TableMeta) → IsFound found left m
    → meta_by found left ≡ Ok m
meta_only found left m h =
    let head = found_head found m.version m.uuid (record {
      version = h.version;
      two_or_three = h.two_or_three;
      uuid = h.uuid;
      checked = members_checked found left m h;
    }) in
    let parts = found_parts (format m.version) found m.snapshots m.columns (parts_read found left m h) in
    bind_only _ _ (m.version, m.uuid) _ head
    (bind_only _ _ (m.snapshots, m.columns) _ parts (ap Ok (record_is found left m h)))
