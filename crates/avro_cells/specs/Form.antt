-- How the cells of a field are read.
-- Avro 1.11, "Primitive Types", "Unions"; Iceberg spec, "Appendix A: Format-specific Requirements", "Avro".
use Rattle.std.specs.Prelude.{◌≡◌, ℕ, ◌==◌, true, List, [], ◌∷◌, Option, Some, None, Result, Ok, is_ok, slice_get}
use Rattle.std.specs.Prelude.{if◌then◌else◌}
use Rattle.words.specs.Reading.{◌>>=◌, map_value}
use Rattle.row_types.specs.declared.cell.Cell.{Cell}
use Rattle.row_types.specs.declared.cell.Cell.TheVariants as cells
use Rattle.avro_wire.specs.Number.{long, int}
use Rattle.schema_tree.specs.declared.schema.Schema.{Schema, out-Schema}
use Rattle.schema_tree.specs.declared.schema.Schema.TheOpen as types
use Rattle.datum_reading.specs.declared.cursor.Cursor.{Cursor}
use Rattle.datum_tree.specs.declared.datum.Datum.{Datum}
use Rattle.datum_reading.specs.declared.refusal.DatumRefusal.{DatumRefusal}
use Rattle.datum_reading.specs.Reading.{flag_at, num_at, sized_at, text_at, choice_at, datum_at}
use Rattle.avro_cells.specs.declared.form.Form.{Form}
use Rattle.avro_cells.specs.declared.kind.Primitive.{Primitive}
use Rattle.avro_cells.specs.declared.kind.Primitive.TheVariants as primitives
use Rattle.avro_cells.specs.Kind.{Level, Nullable, nullable, is_null, primitive_of}
use Rattle.avro_cells.specs.Value.{cell_of}

-- ---- how the cells of a type are read

-- which branch is null: the first of two, or the second one; None in a type that is no union
abbrev pub null_branch_in : List Schema → ℕ
null_branch_in [] = 1
null_branch_in (first ∷ others) = if is_null (out-Schema first) then 0 else 1

abbrev pub null_branch : Level → Option ℕ
null_branch (types.Union branches) = Some (null_branch_in branches)
null_branch _ = None

-- a primitive type, beside null or not
abbrev pub form_with : Option ℕ → Option Primitive → Option Form
form_with null_branch None = None
form_with null_branch (Some primitive) = Some (record { primitive = primitive; null_branch = null_branch })

-- the form of a type that is read as this
abbrev pub form_as : Level → Option Nullable → Option Form
form_as level None = None
form_as level (Some found) = form_with (null_branch level) (primitive_of (out-Schema found.type))

-- how the cells of a type are read; None for a type that holds none
abbrev pub form_of : Schema → Option Form
form_of schema = form_as (out-Schema schema) (nullable schema)

-- ---- what is read

-- what is read as a value is its cell
abbrev pub as_cell : Result (Datum × Cursor) DatumRefusal → Result (Cell × Cursor) DatumRefusal
as_cell read = map_value (λ read. (cell_of (Some read.0), read.1)) read

-- the cell at a cursor, of the value that is read under the schema
abbrev pub cell_read : Schema → List ℕ → Cursor → Result (Cell × Cursor) DatumRefusal
cell_read schema input at = as_cell (datum_at schema input at)

-- there is a cell at a cursor: the value of some type of this form is read there
pub record IsCellThere (form : Form) (input : List ℕ) (at : Cursor) : Type 0 where
  pub schema : Schema
  pub form_is : form_of schema ≡ Some form
  pub read : is_ok (datum_at schema input at) ≡ true

-- the cell at a cursor, of a primitive type
abbrev pub primitive_at : Primitive → List ℕ → Cursor → Result (Cell × Cursor) DatumRefusal
primitive_at primitives.Boolean input at = as_cell (flag_at (slice_get input at.place) at)
primitive_at primitives.Int input at = as_cell (num_at int input at)
primitive_at primitives.Long input at = as_cell (num_at long input at)
primitive_at primitives.Text input at = map_value (λ read. (cells.Text read.0, read.1)) (text_at input at)
primitive_at primitives.Bytes input at = map_value (λ read. (cells.Bytes read.0, read.1)) (sized_at input at)

-- the cell at a cursor that is of a primitive type, or null in this branch
abbrev pub beside_null_at : Primitive → Option ℕ → List ℕ → Cursor → Result (Cell × Cursor) DatumRefusal
beside_null_at primitive None input at = primitive_at primitive input at
beside_null_at primitive (Some branch) input at =
    choice_at 2 input at >>= λ choice.
    if choice.0 == branch then Ok (cells.Null, choice.1) else primitive_at primitive input choice.1

-- the cell at a cursor, of the form
abbrev pub form_at : Form → List ℕ → Cursor → Result (Cell × Cursor) DatumRefusal
form_at form input at = beside_null_at form.primitive form.null_branch input at
