-- The JSON object of the columns of a new table: its schema has the id 0.
use Rattle.std.specs.Prelude.{List, [], ◌∷◌, map, pos, Some, codes}
use Rattle.serde_json.specs.Data.{Data, boolean, string, array, object, Members, no_members}
use Rattle.serde_json.specs.View.{items_of}
use Rattle.json_members.specs.Members.{Field, with_fields}
use Rattle.json_members.specs.Values.{whole}
use Rattle.row_types.specs.declared.column.Column.{Column}
use Rattle.row_types.specs.KindWord.{kind_text}

abbrev pub column_fields : Column → List Field
column_fields column =
    (codes "id", Some (whole column.id))
    ∷ (codes "name", Some (string column.name))
    ∷ (codes "required", Some (boolean column.required))
    ∷ (codes "type", Some (string (kind_text column.kind)))
    ∷ []

abbrev pub column_value : Column → Data
column_value column = object (with_fields (column_fields column) no_members)

abbrev pub schema_fields : List Column → List Field
schema_fields columns =
    (codes "fields", Some (array (items_of (map column_value columns))))
    ∷ (codes "schema-id", Some (whole (pos 0)))
    ∷ (codes "type", Some (string (codes "struct")))
    ∷ []

abbrev pub schema_of : List Column → Members
schema_of columns = with_fields (schema_fields columns) no_members
