-- Which field of a file's schema holds which column: the first one with the column's id.
-- Iceberg spec, "Column Projection"; "Reserved Field IDs".
use Rattle.std.specs.Prelude.{ℕ, ◌+◌, ℤ, pos, Bool, false, not, List, [], ◌∷◌, Option, Some, None, Result, Ok, Err}
use Rattle.std.specs.Prelude.{if◌then◌else◌}
use Rattle.std.specs.Ordering.{int_eq}
use Rattle.words.specs.Reading.{◌>>=◌}
use Rattle.row_types.specs.declared.column.Column.{Column}
use Rattle.row_types.specs.declared.column.Kind.{Kind}
use Rattle.row_types.specs.declared.column.Kind.TheVariants as kinds
use Rattle.schema_tree.specs.declared.schema.Schema.{Schema}
use Rattle.schema_tree.specs.declared.schema.Field.{Field, out-Field}
use Rattle.stored_rows.specs.declared.refusal.RowRefusal.{RowRefusal}
use Rattle.stored_rows.specs.declared.refusal.RowRefusal.TheVariants.{MissingColumn, Kind as WrongKind}
use Rattle.avro_cells.specs.Kind.{is_allowed}

-- the ids of the lineage columns: a row's id, and the sequence number of its last change
abbrev pub row_id_field : ℤ
row_id_field = pos 2147483540

abbrev pub last_updated_field : ℤ
last_updated_field = pos 2147483539

-- the id is there, and it is this one
abbrev pub is_this : ℤ → Option ℤ → Bool
is_this id None = false
is_this id (Some other) = int_eq other id

-- where a field stands, counted from 0, and its schema
abbrev pub Found : Type 0
Found = ℕ × Schema

-- the first field with the id, where the first of these fields stands at the place
unfoldable pub find_from : ℕ → ℤ → List Field → Option Found
find_from place id [] = None
find_from place id (field ∷ fields) =
    if is_this id (out-Field field).id then Some (place, (out-Field field).schema) else find_from (place + 1) id
    fields

-- the first field with the id
abbrev pub find : ℤ → List Field → Option Found
find id fields = find_from 0 id fields

-- ---- the checks of a file's schema, in their order

-- a required column that isn't there
abbrev pub is_missing : Column → Option Found → Bool
is_missing column None = column.required
is_missing column (Some found) = false

unfoldable pub check_missing : List Field → List Column → Result (Unit {0}) RowRefusal
check_missing fields [] = Ok tt
check_missing fields (column ∷ columns) =
    if is_missing column (find column.id fields) then Err (MissingColumn column.id) else check_missing fields columns

-- a field whose type isn't one that the kind is read from
abbrev pub is_wrong : Kind → Option Found → Bool
is_wrong kind None = false
is_wrong kind (Some found) = not (is_allowed kind found.1)

abbrev pub check_kind : ℤ → Kind → List Field → Result (Unit {0}) RowRefusal
check_kind id kind fields = if is_wrong kind (find id fields) then Err (WrongKind id) else Ok tt

unfoldable pub check_kinds : List Field → List Column → Result (Unit {0}) RowRefusal
check_kinds fields [] = Ok tt
check_kinds fields (column ∷ columns) = check_kind column.id column.kind fields >>= λ _. check_kinds fields columns

-- every required column is there; each column that is there can be read, and then each lineage column
unfoldable pub check_fields : List Field → List Column → Result (Unit {0}) RowRefusal
check_fields fields columns = do
  _ ← check_missing fields columns
  _ ← check_kinds fields columns
  _ ← check_kind row_id_field kinds.Long fields
  check_kind last_updated_field kinds.Long fields
