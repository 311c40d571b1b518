-- The metadata of a new table.
use Rattle.std.specs.Prelude.{ℕ, ℤ, pos, List, [], ◌∷◌, Option, Some, None, codes}
use Rattle.serde_json.specs.Data.{array, object, no_items, item, Members, no_members}
use Rattle.json_members.specs.declared.rows.Version.{Version}
use Rattle.json_members.specs.declared.rows.Version.TheVariants.{Older, Newer}
use Rattle.json_members.specs.Members.{Field, with_fields}
use Rattle.json_members.specs.Values.{whole}
use Rattle.row_types.specs.declared.column.Column.{Column}
use Rattle.schema_columns.specs.Printing.{schema_of}
use Rattle.metadata_reading.specs.declared.meta.TableMeta.{TableMeta}
use Rattle.metadata_reading.specs.Version.{format}
use Rattle.metadata_changes.specs.Numbers.{larger}

-- the greatest of a number and the ids of columns
abbrev pub greatest : ℤ → List Column → ℤ
greatest most [] = most
greatest most (column ∷ columns) = greatest (larger most column.id) columns

-- an object with a list of no fields and the id 0
abbrev pub empty_fields : List ℕ → List Field
empty_fields name = (codes "fields", Some (array no_items)) ∷ (name, Some (whole (pos 0))) ∷ []

abbrev pub empty_of : List ℕ → Members
empty_of name = with_fields (empty_fields name) no_members

-- the members of a new table that have no field in its metadata
abbrev pub list_fields : List Column → List Field
list_fields columns =
    (codes "partition-specs", Some (array (item (object (empty_of (codes "spec-id"))) no_items)))
    ∷ (codes "schemas", Some (array (item (object (schema_of columns)) no_items)))
    ∷ (codes "sort-orders", Some (array (item (object (empty_of (codes "order-id"))) no_items)))
    ∷ []

abbrev pub empty_list_fields : List Column → List Field
empty_list_fields columns =
    (codes "metadata-log", Some (array no_items))
    ∷ (codes "properties", Some (object no_members))
    ∷ (codes "refs", Some (object no_members))
    ∷ (codes "snapshot-log", Some (array no_items))
    ∷ list_fields columns

abbrev pub fresh_fields : List Column → List Field
fresh_fields columns =
    (codes "default-sort-order-id", Some (whole (pos 0)))
    ∷ (codes "last-column-id", Some (whole (greatest (pos 0) columns)))
    ∷ (codes "last-partition-id", Some (whole (pos 999)))
    ∷ empty_list_fields columns

-- the next row id of a new table: 0, if the version has one
abbrev pub first_next : Version → Option ℤ
first_next Older = None
first_next Newer = Some (pos 0)

-- the metadata of a new table
abbrev pub fresh : List ℕ → ℕ → List ℕ → List Column → ℤ → TableMeta
fresh uuid version location columns now = record {
  version = version;
  uuid = uuid;
  location = location;
  last_sequence = pos 0;
  last_updated = now;
  columns = columns;
  schema_id = pos 0;
  spec_id = pos 0;
  next_row_id = first_next (format version);
  current = None;
  snapshots = [];
  rest = with_fields (fresh_fields columns) no_members;
}
