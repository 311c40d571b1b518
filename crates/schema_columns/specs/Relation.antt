-- Which columns a schema's object has. Iceberg spec, "Schemas and Data Types", and Appendix C, "Schemas".
use Rattle.std.specs.Prelude.{◌≡◌, ⊤, List, [], ◌∷◌, Option, Some, None, codes}
use Rattle.serde_json.specs.Data.{Data, null, boolean, string, array, object, Items, no_items, item, Members}
use Rattle.serde_json.specs.Find.{get_member}
use Rattle.json_members.specs.Values.{number_in}
use Rattle.row_types.specs.declared.column.Column.{Column}
use Rattle.row_types.specs.Columns.{IsColumns}
use Rattle.row_types.specs.KindWord.{kind_text}

-- nothing is found, or null
abbrev pub IsUnset : Option Data → Type 0
IsUnset None = ⊤
IsUnset (Some value) = value ≡ null

-- the members of an object are this column, which has no default value
pub record IsColumn (ms : Members) (column : Column) : Type 0 where
  pub id : number_in (get_member (codes "id") ms) ≡ Some column.id
  pub name : get_member (codes "name") ms ≡ Some (string column.name)
  pub required : get_member (codes "required") ms ≡ Some (boolean column.required)
  pub kind : get_member (codes "type") ms ≡ Some (string (kind_text column.kind))
  pub initial_default : IsUnset (get_member (codes "initial-default") ms)
  pub write_default : IsUnset (get_member (codes "write-default") ms)

-- the value is an object, and this column
pub record IsField (value : Data) (column : Column) : Type 0 where
  pub ms : Members
  pub is_object : value ≡ object ms
  pub is_column : IsColumn ms column

-- the values are these columns, in order
abbrev pub AreFields : Items → List Column → Type 0
AreFields no_items [] = ⊤
AreFields no_items (column ∷ columns) = ⊥
AreFields (item value items) [] = ⊥
AreFields (item value items) (column ∷ columns) = IsField value column × AreFields items columns

-- the object is a schema of a table with these columns
pub record IsSchema (schema : Members) (columns : List Column) : Type 0 where
  pub items : Items
  pub fields : get_member (codes "fields") schema ≡ Some (array items)
  pub each : AreFields items columns
  pub right : IsColumns columns
