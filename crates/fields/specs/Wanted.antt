-- Which field of a record holds what is wanted: the first one with the id, if its type is an allowed one.
-- Iceberg spec, "Column Projection".
use Rattle.std.specs.Prelude.{ℕ, ◌+◌, ℤ, Bool, true, false, ◌||◌, ◌&&◌, List, [], ◌∷◌, map, Option, Some, None}
use Rattle.std.specs.Prelude.{Result, Ok}
use Rattle.std.specs.Prelude.{Err, slice_get, if◌then◌else◌}
use Rattle.std.specs.Ordering.{int_eq}
use Rattle.row_types.specs.declared.cell.Cell.{Cell}
use Rattle.row_types.specs.declared.cell.Cell.TheVariants as cells
use Rattle.row_types.specs.declared.column.Kind.{Kind}
use Rattle.schema_tree.specs.declared.schema.Schema.{Schema, out-Schema}
use Rattle.schema_tree.specs.declared.schema.Schema.TheOpen.{Rec}
use Rattle.schema_tree.specs.declared.schema.Field.{Field}
use Rattle.datum_tree.specs.declared.datum.Datum.{Datum}
use Rattle.fields.specs.declared.wanted.Wanted.{Wanted}
use Rattle.fields.specs.declared.refusal.FieldRefusal.{FieldRefusal}
use Rattle.fields.specs.declared.refusal.FieldRefusal.TheVariants.{MissingField}
use Rattle.avro_cells.specs.Kind.{Level, is_allowed}
use Rattle.fields.specs.declared.leaf.Leaf.{Leaf}
use Rattle.fields.specs.Flat.{leaves, flat_values}
use Rattle.row_types.specs.CellRef.{is_null}
use Rattle.avro_cells.specs.Value.{cell_of, values_of}

-- the fields of a schema; one that is no record has none
abbrev pub fields_of_level : Level → List Field
fields_of_level (Rec name fields) = fields
fields_of_level _ = []

abbrev pub fields_of : Schema → List Field
fields_of schema = fields_of_level (out-Schema schema)

-- the ids are those of the field that is wanted
abbrev pub is_id : Option ℤ → Option ℤ → Bool
is_id None None = true
is_id None (Some other) = false
is_id (Some id) None = false
is_id (Some id) (Some other) = int_eq other id

abbrev pub is_this : Wanted → Leaf → Bool
is_this wanted leaf = is_id (Some wanted.id) leaf.id && is_id wanted.parent leaf.parent

-- one of the wanted fields is in a record in a field of the id
abbrev pub has_inner : ℤ → List Wanted → Bool
has_inner id [] = false
has_inner id (w ∷ wanted) = is_id (Some id) w.parent || has_inner id wanted

-- a record is opened if one of its fields is wanted; in a field without an id none is
abbrev pub opens : List Wanted → Option ℤ → Bool
opens wanted None = false
opens wanted (Some id) = has_inner id wanted

-- where a field stands, counted from 0, and its schema
abbrev pub Found : Type 0
Found = ℕ × Schema

-- the first field with the ids, where the first of these fields stands at the place
unfoldable pub find_from : ℕ → Wanted → List Leaf → Option Found
find_from place wanted [] = None
find_from place wanted (leaf ∷ leaves) =
    if is_this wanted leaf then Some (place, leaf.schema) else find_from (place + 1) wanted leaves

abbrev pub find : Wanted → List Leaf → Option Found
find wanted leaves = find_from 0 wanted leaves

-- the place of a field, if its type is one that the kind is read from
abbrev pub source_as : Kind → Option Found → Option ℕ
source_as kind None = None
source_as kind (Some found) = if is_allowed kind found.1 then Some found.0 else None

abbrev pub source : List Leaf → Wanted → Option ℕ
source fields wanted = source_as wanted.kind (find wanted fields)

-- the cell of the value at a place; null if there is none
abbrev pub cell_at : List Datum → Option ℕ → Cell
cell_at values None = cells.Null
cell_at values (Some place) = cell_of (slice_get values place)

-- what is wanted, of a record's values, in the order in which it is wanted
abbrev pub cells_with : List Wanted → List Leaf → List Datum → List Cell
cells_with wanted fields values = map (λ (w : Wanted). cell_at values (source fields w)) wanted

-- the cells that are wanted of a value of a schema
abbrev pub wanted_of : List Wanted → Schema → Datum → List Cell
wanted_of wanted schema datum =
    cells_with wanted (leaves (opens wanted) (fields_of schema))
    (flat_values (opens wanted) (fields_of schema) (values_of datum))

-- ---- what is required

abbrev pub is_none : Option ℕ → Bool
is_none None = true
is_none (Some place) = false

-- each required field is there, of an allowed type; the first one in the order of the table that is not is reported
unfoldable pub check_missing : List Leaf → List Wanted → Result (Unit {0}) FieldRefusal
check_missing fields [] = Ok tt
check_missing fields (w ∷ wanted) =
    if w.required && is_none (source fields w) then Err (MissingField w.id)
    else check_missing fields wanted

-- no required field has a null; the first one in the order of the table that has is reported
unfoldable pub check_nulls : List Wanted → List Cell → Result (Unit {0}) FieldRefusal
check_nulls [] cells = Ok tt
check_nulls (w ∷ wanted) [] = Ok tt
check_nulls (w ∷ wanted) (cell ∷ cells) =
    if w.required && is_null cell then Err (MissingField w.id)
    else check_nulls wanted cells
