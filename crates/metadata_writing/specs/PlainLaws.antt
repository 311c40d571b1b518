-- What is printed of metadata has no floats, and nests at most 127 deep.
use Rattle.std.proofs.Common.{◌≡◌, inl, inr, ℕ, ℤ, pos, Some, codes}
use Rattle.std.proofs.Common.{subst, map}
use Rattle.uuid.specs.Text.{hyphenated_text, lower}
use Rattle.serde_json.specs.Data.{array, object, Items, no_items, item, Members}
use Rattle.serde_json.specs.Find.{get_member}
use Rattle.serde_json.specs.View.{items_of}
use Rattle.json_members.specs.Members.{with_fields}
use Rattle.json_members.specs.Plain.{IsPlain, ItemsArePlain, FieldsArePlain}
use Rattle.json_members.specs.PlainLaws.{plain_fields, plain_found, plain_array, plain_item, array_plain, object_plain}
use Rattle.json_members.specs.PlainLaws.{whole_plain, string_plain, number_plain}
use Rattle.snapshot_entries.specs.PlainLaws.{snapshots_plain}
use Rattle.snapshot_entries.specs.Printing.{snapshot_value}
use Rattle.metadata_reading.specs.declared.meta.TableMeta.{TableMeta}
use Rattle.metadata_reading.specs.Relation.{IsFirstSchema}
use Rattle.metadata_reading.specs.Table.{IsTable}
use Rattle.metadata_reading.specs.Version.{format}
use Rattle.metadata_writing.specs.Printing.{meta_fields, meta_value}

fields_plain : (m : TableMeta) → IsTable m → FieldsArePlain 126 (meta_fields m)
fields_plain m h = (
  whole_plain 126 (pos m.version),
  (
    string_plain 126 (hyphenated_text lower m.uuid),
    (
      string_plain 126 m.location,
      (
        whole_plain 126 m.last_sequence,
        (
          whole_plain 126 m.last_updated,
          (
            whole_plain 126 m.schema_id,
            (
              whole_plain 126 m.spec_id,
              (
                number_plain 126 m.next_row_id,
                (
                  array_plain 125 (items_of (map snapshot_value m.snapshots))
                      (snapshots_plain (format m.version) m.last_sequence m.snapshots h.snapshots),
                  (number_plain 126 m.current, tt),
                ),
              ),
            ),
          ),
        ),
      ),
    ),
  ),
)

-- the object of metadata
pub meta_plain : (m : TableMeta) → IsTable m → IsPlain 127 (meta_value m)
meta_plain m h =
    object_plain 126 (with_fields (meta_fields m) m.rest)
    (plain_fields 126 (meta_fields m) m.rest (fields_plain m h) h.plain)

-- ---- a schema

-- the schema of plain items
schema_plain : (room : ℕ) (id : ℤ) (items : Items) (schema : Members) → ItemsArePlain room items
    → IsFirstSchema id items schema → IsPlain room (object schema)
schema_plain room id no_items schema all is = absurd is
schema_plain room id (item value items) schema all (inl here) =
    subst (IsPlain room) here.0 (plain_item room value items all).0
schema_plain room id (item value items) schema all (inr later) =
    schema_plain room id items schema (plain_item room value items all).1 later.1

-- the current schema of metadata
pub current_plain : (m : TableMeta) (items : Items) (schema : Members) → IsTable m
    → get_member (codes "schemas") m.rest ≡ Some (array items) → IsFirstSchema m.schema_id items schema
    → IsPlain 125 (object schema)
current_plain m items schema h found is =
    schema_plain 125 m.schema_id items schema
    (plain_array 125 items (plain_found 126 (codes "schemas") m.rest (array items) h.plain found)) is
