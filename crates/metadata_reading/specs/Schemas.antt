-- The schemas and the partition specs of a table. Iceberg spec, "Schemas and Data Types" and "Partition Specs".
use Rattle.std.specs.Prelude.{ℕ, ℤ, Bool, true, false, not, ◌&&◌, List, Option, Some, None, is_some, option_and_then}
use Rattle.std.specs.Prelude.{Result, Ok, Err, codes, if◌then◌else◌}
use Rattle.std.specs.Ordering.{int_eq}
use Rattle.words.specs.Reading.{map_refusal}
use Rattle.serde_json.specs.Data.{Data, Items, no_items, item, Members}
use Rattle.serde_json.specs.Find.{get, as_array, as_object}
use Rattle.json_members.specs.Form.{items_in}
use Rattle.json_members.specs.Values.{number_in}
use Rattle.row_types.specs.declared.column.Column.{Column}
use Rattle.schema_columns.specs.Reading.{columns_in}
use Rattle.metadata_reading.specs.declared.refusal.MetaRefusal.{MetaRefusal}
use Rattle.metadata_reading.specs.declared.refusal.MetaRefusal.TheVariants.{Wrong, Partitioned}
use Rattle.metadata_reading.specs.Refusal.{of_columns}

-- ---- schemas

-- the number at the name, if the value is an object that has one there
abbrev pub number_of : List ℕ → Data → Option ℤ
number_of name value = number_in (get name value)

-- all are objects with a number `schema-id`
abbrev pub are_schemas : Items → Bool
are_schemas no_items = true
are_schemas (item value items) = is_some (number_of (codes "schema-id") value) && are_schemas items

abbrev pub schemas_checked : Items → Result (Unit {0}) MetaRefusal
schemas_checked items = if are_schemas items then Ok tt else Err (Wrong (codes "schemas"))

-- the id is this number
abbrev pub is_that : ℤ → Option ℤ → Bool
is_that id None = false
is_that id (Some other) = int_eq other id

-- the first schema that has the id
abbrev pub schema_of : ℤ → Items → Option Members
schema_of id no_items = None
schema_of id (item value items) =
    if is_that id (number_of (codes "schema-id") value) then as_object value else schema_of id items

-- a current schema that isn't there is refused
abbrev pub current_schema_checked : ℤ → Items → Result (Unit {0}) MetaRefusal
current_schema_checked id items =
    if is_some (schema_of id items) then Ok tt else Err (Wrong (codes "current-schema-id"))

-- the columns of that schema
abbrev pub schema_columns : Option Members → Result (List Column) MetaRefusal
schema_columns None = Err (Wrong (codes "current-schema-id"))
schema_columns (Some schema) = map_refusal of_columns (columns_in schema)

-- ---- partition specs

-- an object with a number `spec-id` and a list `fields`
abbrev pub is_spec : Data → Bool
is_spec value =
    is_some (number_of (codes "spec-id") value)
    && is_some (option_and_then as_array (get (codes "fields") value))

abbrev pub are_specs : Items → Bool
are_specs no_items = true
are_specs (item value items) = is_spec value && are_specs items

abbrev pub specs_checked : Items → Result (Unit {0}) MetaRefusal
specs_checked items = if are_specs items then Ok tt else Err (Wrong (codes "partition-specs"))

-- there are no items
abbrev pub are_none : Items → Bool
are_none no_items = true
are_none (item value items) = false

-- the partition spec has a field
abbrev pub has_fields : Data → Bool
has_fields value = not (are_none (items_in (get (codes "fields") value)))

-- none has one
abbrev pub are_unpartitioned : Items → Bool
are_unpartitioned no_items = true
are_unpartitioned (item value items) = not (has_fields value) && are_unpartitioned items

abbrev pub partitions_checked : Items → Result (Unit {0}) MetaRefusal
partitions_checked items = if are_unpartitioned items then Ok tt else Err Partitioned
