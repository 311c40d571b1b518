-- The current schema of a table, by what is found at each name. Iceberg spec, "Table Metadata Fields".
use Rattle.std.specs.Prelude.{◌≡◌, ◌≢◌, ⊤, ℤ, Some, codes}
use Rattle.serde_json.specs.Data.{Items, no_items, item, Members}
use Rattle.serde_json.specs.Find.{get}
use Rattle.json_members.specs.Form.{items_in}
use Rattle.json_members.specs.Rows.{Lookup}
use Rattle.json_members.specs.Values.{number_in}
use Rattle.metadata_reading.specs.Relation.{IsFirstSchema}

-- this is the id of the current schema
abbrev pub IsSchemaId : Lookup → ℤ → Type 0
IsSchemaId found id = number_in (found (codes "current-schema-id")) ≡ Some id

-- this is the current schema: the first one that has that id
abbrev pub IsCurrentSchema : Lookup → Members → Type 0
IsCurrentSchema found schema =
    (id : ℤ) × IsSchemaId found id × IsFirstSchema id (items_in (found (codes "schemas"))) schema

-- no item has this number at `schema-id`
abbrev pub LackSchema : ℤ → Items → Type 0
LackSchema id no_items = ⊤
LackSchema id (item value items) = (number_in (get (codes "schema-id") value) ≢ Some id) × LackSchema id items

-- no schema has the id of the current one
abbrev pub HasNoSchema : Lookup → Type 0
HasNoSchema found = (id : ℤ) × IsSchemaId found id × LackSchema id (items_in (found (codes "schemas")))
