-- The columns of a schema's object, or the first check that refuses them.
use Rattle.std.specs.Prelude.{ℕ, ℤ, Bool, false, not, ◌||◌, List, [], ◌∷◌, ◌++◌, Option, Some, None, is_some}
use Rattle.std.specs.Prelude.{option_and_then, unwrap_or, Result, Ok, Err, codes, if◌then◌else◌}
use Rattle.words.specs.Reading.{◌>>=◌, map_refusal}
use Rattle.serde_json.specs.Data.{Data, Items, no_items, item, Members}
use Rattle.serde_json.specs.Find.{get_member, as_array, as_bool, as_null, as_object}
use Rattle.json_members.specs.declared.rows.Version.TheVariants.{Older}
use Rattle.json_members.specs.Form.{if_int}
use Rattle.json_members.specs.Rows.{each_checked, of_version}
use Rattle.json_members.specs.Values.{number_in, text_in}
use Rattle.row_types.specs.declared.column.Column.{Column}
use Rattle.row_types.specs.declared.column.Kind.{Kind}
use Rattle.row_types.specs.declared.column.Kind.TheVariants as kinds
use Rattle.row_types.specs.Columns.{columns_of}
use Rattle.schema_columns.specs.declared.refusal.ColumnRefusal.{ColumnRefusal}
use Rattle.schema_columns.specs.declared.refusal.ColumnRefusal.TheVariants.{Fields, ColumnType}
use Rattle.schema_columns.specs.Kind.{kind_of}
use Rattle.schema_columns.specs.Members.{members}
use Rattle.schema_columns.specs.Refusal.{of_fault}

-- ---- the members of one column

abbrev pub name_in : Members → List ℕ
name_in ms = unwrap_or (text_in (get_member (codes "name") ms)) []

abbrev pub required_in : Members → Bool
required_in ms = unwrap_or (option_and_then as_bool (get_member (codes "required") ms)) false

-- its id, if it has 32 bits
abbrev pub id_in : Members → Option ℤ
id_in ms = option_and_then if_int (number_in (get_member (codes "id") ms))

-- a value is found that isn't null
abbrev pub is_set : Option Data → Bool
is_set None = false
is_set (Some value) = not (is_some (as_null value))

abbrev pub is_set_at : List ℕ → Members → Bool
is_set_at name ms = is_set (get_member name ms)

-- the column has a default value
abbrev pub has_default : Members → Bool
has_default ms = is_set_at (codes "initial-default") ms || is_set_at (codes "write-default") ms

-- the kind of a column that rowline can use
abbrev pub kind_in : Members → Option Kind
kind_in ms = if has_default ms then None else option_and_then kind_of (text_in (get_member (codes "type") ms))

abbrev pub kind_or_boolean : Members → Kind
kind_or_boolean ms = unwrap_or (kind_in ms) kinds.Boolean

-- ---- one column

-- a column that has no kind is refused by its name
abbrev pub object_kind_checked : Option Members → Result (Unit {0}) ColumnRefusal
object_kind_checked None = Err (ColumnType [])
object_kind_checked (Some ms) = if is_some (kind_in ms) then Ok tt else Err (ColumnType (name_in ms))

abbrev pub kind_checked : Data → Result (Unit {0}) ColumnRefusal
kind_checked value = object_kind_checked (as_object value)

-- the column of the members
abbrev pub column_or_wrong : Members → Option ℤ → Result Column ColumnRefusal
column_or_wrong ms None = Err Fields
column_or_wrong ms (Some id) =
    Ok (record { id = id; name = name_in ms; kind = kind_or_boolean ms; required = required_in ms })

abbrev pub column_in : Members → Result Column ColumnRefusal
column_in ms = column_or_wrong ms (id_in ms)

abbrev pub object_column : Option Members → Result Column ColumnRefusal
object_column None = Err Fields
object_column (Some ms) = column_in ms

abbrev pub column_of : Data → Result Column ColumnRefusal
column_of value = object_column (as_object value)

-- ---- columns

-- the first column without a kind is refused
abbrev pub kinds_checked : Items → Result (Unit {0}) ColumnRefusal
kinds_checked no_items = Ok tt
kinds_checked (item value items) = kind_checked value >>= (λ _. kinds_checked items)

-- the columns of the items, after those that were seen
abbrev pub columns_from : List Column → Items → Result (List Column) ColumnRefusal
columns_from seen no_items = Ok seen
columns_from seen (item value items) = column_of value >>= (λ column. columns_from (seen ++ column ∷ []) items)

-- the columns of the items, if each is one that rowline can use
abbrev pub checked_columns : Items → Result (List Column) ColumnRefusal
checked_columns items = do
  _ ← map_refusal of_fault (each_checked (codes "fields") (of_version Older members) items)
  _ ← kinds_checked items
  columns_from [] items

-- the list as the columns of a table
abbrev pub table_columns : List Column → Result (List Column) ColumnRefusal
table_columns list = map_refusal (λ _. Fields) (columns_of list)

abbrev pub columns_of_items : Items → Result (List Column) ColumnRefusal
columns_of_items items = checked_columns items >>= table_columns

-- ---- a schema

-- the items of the list `fields`
abbrev pub fields_found : Members → Option Items
fields_found schema = option_and_then as_array (get_member (codes "fields") schema)

abbrev pub columns_or_wrong : Option Items → Result (List Column) ColumnRefusal
columns_or_wrong None = Err Fields
columns_or_wrong (Some items) = columns_of_items items

abbrev pub columns_in : Members → Result (List Column) ColumnRefusal
columns_in schema = columns_or_wrong (fields_found schema)
