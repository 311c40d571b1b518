-- The JSON text of metadata: the members that have fields, beside those that are carried.
use Rattle.std.specs.Prelude.{ℕ, pos, List, [], ◌∷◌, map, Option, Some, None, option_map, codes}
use Rattle.uuid.specs.Text.{hyphenated_text, lower}
use Rattle.serde_json.specs.Data.{Data, string, array, object, Members}
use Rattle.serde_json.specs.Find.{get_member}
use Rattle.serde_json.specs.View.{items_of}
use Rattle.serde_json.specs.Written.{compact_text}
use Rattle.json_members.specs.Form.{items_in}
use Rattle.json_members.specs.Members.{Field, with_fields}
use Rattle.json_members.specs.Values.{whole}
use Rattle.snapshot_entries.specs.Printing.{snapshot_value}
use Rattle.metadata_reading.specs.declared.meta.TableMeta.{TableMeta}
use Rattle.metadata_reading.specs.Schemas.{schema_of}

-- ---- metadata

-- the last fields; one that is missing isn't printed, but a list of no snapshots is
abbrev pub last_fields : TableMeta → List Field
last_fields m =
    (codes "next-row-id", option_map whole m.next_row_id)
    ∷ (codes "snapshots", Some (array (items_of (map snapshot_value m.snapshots))))
    ∷ (codes "current-snapshot-id", option_map whole m.current)
    ∷ []

-- the numbers that are always there, and the fields after them
abbrev pub number_fields : TableMeta → List Field
number_fields m =
    (codes "last-sequence-number", Some (whole m.last_sequence))
    ∷ (codes "last-updated-ms", Some (whole m.last_updated))
    ∷ (codes "current-schema-id", Some (whole m.schema_id))
    ∷ (codes "default-spec-id", Some (whole m.spec_id))
    ∷ last_fields m

-- all fields, in the order of the table of members
abbrev pub meta_fields : TableMeta → List Field
meta_fields m =
    (codes "format-version", Some (whole (pos m.version)))
    ∷ (codes "table-uuid", Some (string (hyphenated_text lower m.uuid)))
    ∷ (codes "location", Some (string m.location))
    ∷ number_fields m

-- the fields beside the carried members
abbrev pub meta_value : TableMeta → Data
meta_value m = object (with_fields (meta_fields m) m.rest)

-- the compact text of that object
abbrev pub meta_text : TableMeta → List ℕ
meta_text m = compact_text (meta_value m)

-- ---- the current schema

-- the object of the current schema, which is carried
abbrev pub current_schema : TableMeta → Option Members
current_schema m = schema_of m.schema_id (items_in (get_member (codes "schemas") m.rest))

-- the compact text of an object, if there is one
abbrev pub object_text : Option Members → List ℕ
object_text None = []
object_text (Some members) = compact_text (object members)

-- the text of the current schema
abbrev pub schema_text : TableMeta → List ℕ
schema_text m = object_text (current_schema m)
