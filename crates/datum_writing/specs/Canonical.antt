-- The one spelling of a value that is written: the fewest bytes for each number, and all items of an array or a map
-- in one block.
-- Avro 1.11, "Binary encoding".
use Rattle.std.specs.Prelude.{ℕ, zero, suc, pos, List, [], ◌∷◌, ◌++◌}
use Rattle.avro_wire.specs.Writing.{number_text, bytes_text, list_text}
use Rattle.schema_tree.specs.declared.schema.Schema.{Schema}
use Rattle.schema_tree.specs.declared.schema.Field.{Field}
use Rattle.schema_tree.specs.declared.schema.Schema.TheOpen.{Schema-F, Field-F, Null, Boolean, Int, Long, Float}
use Rattle.schema_tree.specs.declared.schema.Schema.TheOpen.{Double, Raw, Str, Fixed, Enum, Rec, Array, Map, Union}
use Rattle.schema_tree.specs.declared.schema.Schema.TheFolds.{fold-Schema, fold-Field}
use Rattle.datum_tree.specs.declared.datum.Datum.{Datum, out-Datum}
use Rattle.datum_tree.specs.declared.datum.Datum.TheOpen as kinds
use Rattle.datum_tree.specs.Value.{Level}
use Rattle.datum_tree.specs.Spelling.{flag_byte}

-- what puts a value into bytes
abbrev pub Encoder : Type 0
Encoder = Datum → List ℕ

-- the fields' values, in order
abbrev pub each_text : List Encoder → List Datum → List ℕ
each_text [] values = []
each_text (field ∷ fields) [] = []
each_text (field ∷ fields) (value ∷ values) = field value ++ each_text fields values

-- a key and its value
abbrev pub pair_text : Encoder → List ℕ × Datum → List ℕ
pair_text value_text pair = bytes_text pair.0 ++ value_text pair.1

-- a value of the branch at the place
abbrev pub branch_text : List Encoder → ℕ → Datum → List ℕ
branch_text [] place value = []
branch_text (branch ∷ branches) zero value = branch value
branch_text (branch ∷ branches) (suc place) value = branch_text branches place value

-- the bytes of a value of a schema, by those of the schemas in it
abbrev pub level_text : Schema-F Encoder Encoder → Level → List ℕ
level_text Null kinds.Null = []
level_text Boolean (kinds.Flag flag) = flag_byte flag ∷ []
level_text (Int logical) (kinds.Num number) = number_text number
level_text (Long logical) (kinds.Num number) = number_text number
level_text Float (kinds.Raw bytes) = bytes
level_text Double (kinds.Raw bytes) = bytes
level_text Raw (kinds.Raw bytes) = bytes_text bytes
level_text Str (kinds.Str text) = bytes_text text
level_text (Fixed name size) (kinds.Raw bytes) = bytes
level_text (Enum name symbols) (kinds.Num number) = number_text number
level_text (Rec name fields) (kinds.Rec values) = each_text fields values
level_text (Array items element_id keyed) (kinds.Array values) = list_text items values
level_text (Map values key_id value_id) (kinds.Map pairs) = list_text (pair_text values) pairs
level_text (Union branches) (kinds.Branch place inside) = number_text (pos place) ++ branch_text branches place inside
level_text _ _ = []

abbrev pub text_of : Schema-F Encoder Encoder → Encoder
text_of schema datum = level_text schema (out-Datum datum)

-- a field's value is written as one of its schema
abbrev pub field_text : Field-F Encoder Encoder → Encoder
field_text field = field.schema

-- the bytes of a value of the schema
abbrev pub canonical : Schema → Encoder
canonical = fold-Schema Encoder Encoder text_of field_text

-- the bytes of a value of the field
abbrev pub field_canonical : Field → Encoder
field_canonical = fold-Field Encoder Encoder text_of field_text
