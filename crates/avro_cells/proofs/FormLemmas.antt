-- A cell that is read by its form is that of the value which is read under the type.
use Rattle.std.proofs.Common.{◌≡◌, ℕ, zero, suc, List, [], ◌∷◌, Bool, true, false, Option, Ok, Err, Result, refl, sym}
use Rattle.std.proofs.Common.{ap, ◌∙◌, subst, arith, inl, inr}
use Rattle.std.specs.Prelude.{◌==◌, ℤ, pos, negsuc, Some, None, slice_get, is_ok, if◌then◌else◌}
use Rattle.std.proofs.lemmas.Option.{none-some}
use Rattle.std.proofs.lemmas.Bool.{cases_Bool, false≢true, le-ltb}
use Rattle.words.specs.Reading.{◌>>=◌, map_value}
use Rattle.row_types.specs.declared.cell.Cell.{Cell}
use Rattle.row_types.specs.declared.cell.Cell.TheVariants as cells
use Rattle.avro_wire.specs.Number.{Bounds, int}
use Rattle.schema_tree.specs.declared.schema.Schema.{Schema, out-Schema}
use Rattle.schema_tree.specs.declared.schema.Schema.TheOpen as types
use Rattle.schema_tree.specs.declared.schema.Schema.TheVariants as schemas
use Rattle.schema_tree.specs.declared.schema.Schema.TheViews.{roll-Schema, roll-out-Schema}
use Rattle.datum_reading.specs.declared.cursor.Cursor.{Cursor}
use Rattle.datum_tree.specs.declared.datum.Datum.TheVariants as datums
use Rattle.datum_tree.specs.declared.datum.Datum.{Datum, out-Datum}
use Rattle.datum_reading.specs.declared.refusal.DatumRefusal.{DatumRefusal}
use Rattle.datum_reading.specs.Reading.{flag_at, number_from, num_at, choice_at, within, branch_at, datum_at}
use Rattle.datum_reading.specs.Layers.{reads-Null, reads-Boolean, reads-Int, reads-Long, reads-Raw, reads-Str}
use Rattle.datum_reading.specs.Layers.{reads-Union}
use Rattle.avro_cells.specs.declared.form.Form.{Form}
use Rattle.avro_cells.specs.declared.kind.Primitive.{Primitive}
use Rattle.avro_cells.specs.Kind.{Level, nullable_level, of_branches, beside_null, is_null, primitive_of}
use Rattle.avro_cells.specs.Value.{cell_of, cell_of_level, plain_cell}
use Rattle.avro_cells.specs.Form.{form_with, form_as, form_of, as_cell, cell_read, primitive_at, beside_null_at}
use Rattle.avro_cells.specs.Form.{form_at}

-- ---- cells of values

abbrev Read : Type 0
Read = Result (Datum × Cursor) DatumRefusal

-- there is a cell where there is a value
pub ok_cell : (read : Read) → is_ok (as_cell read) ≡ is_ok read
ok_cell (Ok read) = refl
ok_cell (Err refusal) = refl

-- the cell of a truth value
pub flag_cell : (byte : Option ℕ) (at : Cursor) (flag : Bool) (after : Cursor) → flag_at byte at ≡ Ok (datums.Flag flag, after) → as_cell (flag_at byte at) ≡ Ok (cells.Flag flag, after)
flag_cell byte at flag after is = rw is (ap (λ (level : _). Ok (cell_of_level level, after)) (datums.outs-Flag flag))

-- the cell of a number
pub num_cell : (bounds : Bounds) (input : List ℕ) (at : Cursor) (number : ℤ) (after : Cursor) → number_from bounds input at ≡ Ok (number, after) → as_cell (num_at bounds input at) ≡ Ok (cells.Num number, after)
num_cell bounds input at number after is = rw is (ap (λ (level : _). Ok (cell_of_level level, after)) (datums.outs-Num number))

-- these
pub ruleset cells_read = (flag_cell, num_cell)

-- the cell of bytes
bytes_cell : (read : Result (List ℕ × Cursor) DatumRefusal) → map_value (λ read. (cells.Bytes read.0, read.1)) read ≡ as_cell (map_value (λ read. (datums.Raw read.0, read.1)) read)
bytes_cell (Ok read) = ap (λ (level : _). Ok (cell_of_level level, read.1)) (sym (datums.outs-Raw read.0))
bytes_cell (Err refusal) = refl

-- the cell of a text
text_cell : (read : Result (List ℕ × Cursor) DatumRefusal) → map_value (λ read. (cells.Text read.0, read.1)) read ≡ as_cell (map_value (λ read. (datums.Str read.0, read.1)) read)
text_cell (Ok read) = ap (λ (level : _). Ok (cell_of_level level, read.1)) (sym (datums.outs-Str read.0))
text_cell (Err refusal) = refl

-- ---- primitive types

-- the same primitive type is there
abbrev inside : Primitive → Option Primitive → Primitive
inside other None = other
inside other (Some primitive) = primitive

same : (a b : Primitive) → Some a ≡ Some b → a ≡ b
same a b is = ap (inside a) is

-- of a layer of a type
by_primitive : (layer : Level) (schema : Schema) → roll-Schema layer ≡ schema → (primitive : Primitive) → primitive_of layer ≡ Some primitive → (input : List ℕ) (at : Cursor) → primitive_at primitive input at ≡ cell_read schema input at
by_primitive types.Boolean schema is primitive read input at = rw (← same _ primitive read, ← is, schemas.rolls-Boolean, reads-Boolean input at) refl
by_primitive (types.Int logical) schema is primitive read input at = rw (← same _ primitive read, ← is, schemas.rolls-Int logical, reads-Int logical input at) refl
by_primitive (types.Long logical) schema is primitive read input at = rw (← same _ primitive read, ← is, schemas.rolls-Long logical, reads-Long logical input at) refl
by_primitive types.Str schema is primitive read input at = rw (← same _ primitive read, ← is, schemas.rolls-Str, reads-Str input at) (text_cell _)
by_primitive types.Raw schema is primitive read input at = rw (← same _ primitive read, ← is, schemas.rolls-Raw, reads-Raw input at) (bytes_cell _)
by_primitive types.Null schema is primitive read input at = absurd (none-some _ read)
by_primitive types.Float schema is primitive read input at = absurd (none-some _ read)
by_primitive types.Double schema is primitive read input at = absurd (none-some _ read)
by_primitive (types.Fixed name size) schema is primitive read input at = absurd (none-some _ read)
by_primitive (types.Enum name symbols) schema is primitive read input at = absurd (none-some _ read)
by_primitive (types.Rec name fields) schema is primitive read input at = absurd (none-some _ read)
by_primitive (types.Array items id keyed) schema is primitive read input at = absurd (none-some _ read)
by_primitive (types.Map values key value) schema is primitive read input at = absurd (none-some _ read)
by_primitive (types.Union branches) schema is primitive read input at = absurd (none-some _ read)

-- a cell of a primitive type is that of its value
pub primitive_reads : (schema : Schema) (primitive : Primitive) → primitive_of (out-Schema schema) ≡ Some primitive → (input : List ℕ) (at : Cursor) → primitive_at primitive input at ≡ cell_read schema input at
primitive_reads schema = by_primitive (out-Schema schema) schema (roll-out-Schema schema)

-- ---- beside null

-- a value of a branch
abbrev chosen : ℕ → Read → Read
chosen place read = map_value (λ read. (datums.Branch place read.0, read.1)) read

-- a primitive value in a branch has the cell that it has alone
branch_of : (place : ℕ) (value : Datum) → plain_cell (out-Datum value) ≡ cell_of_level (out-Datum value) → cell_of (Some (datums.Branch place value)) ≡ cell_of (Some value)
branch_of place value plain = ap cell_of_level (datums.outs-Branch place value) ∙ plain

-- the value that is read, if one is, has the same cell in a branch
abbrev IsPlain : Read → Type 0
IsPlain (Ok read) = plain_cell (out-Datum read.0) ≡ cell_of_level (out-Datum read.0)
IsPlain (Err refusal) = Unit {0}

chosen_cell : (place : ℕ) (read : Read) → IsPlain read → as_cell (chosen place read) ≡ as_cell read
chosen_cell place (Ok read) plain = ap (λ (cell : Cell). Ok (cell, read.1)) (branch_of place read.0 plain)
chosen_cell place (Err refusal) plain = refl

-- what is read of primitive types is plain
plain_flag : (byte : Option ℕ) (at : Cursor) → IsPlain (flag_at byte at)
plain_flag None at = tt
plain_flag (Some byte) at =
    elim (cases_Bool (byte == 0)) [
      | inl is_no ↦ rw is_no (rw (datums.outs-Flag false) refl)
      | inr other ↦ elim (cases_Bool (byte == 1)) [
        | inl is_yes ↦ rw (other, is_yes) (rw (datums.outs-Flag true) refl)
        | inr neither ↦ rw (other, neither) tt
      ]
    ]

plain_num : (read : Result (ℤ × Cursor) DatumRefusal) → IsPlain (map_value (λ read. (datums.Num read.0, read.1)) read)
plain_num (Ok read) = rw (datums.outs-Num read.0) refl
plain_num (Err refusal) = tt

plain_text : (read : Result (List ℕ × Cursor) DatumRefusal) → IsPlain (map_value (λ read. (datums.Str read.0, read.1)) read)
plain_text (Ok read) = rw (datums.outs-Str read.0) refl
plain_text (Err refusal) = tt

plain_bytes : (read : Result (List ℕ × Cursor) DatumRefusal) → IsPlain (map_value (λ read. (datums.Raw read.0, read.1)) read)
plain_bytes (Ok read) = rw (datums.outs-Raw read.0) refl
plain_bytes (Err refusal) = tt

-- of a layer of a type
plain_layer : (layer : Level) (schema : Schema) → roll-Schema layer ≡ schema → (primitive : Primitive) → primitive_of layer ≡ Some primitive → (input : List ℕ) (at : Cursor) → IsPlain (datum_at schema input at)
plain_layer types.Boolean schema is primitive read input at = rw (← is, schemas.rolls-Boolean, reads-Boolean input at) (plain_flag (slice_get input at.place) at)
plain_layer (types.Int logical) schema is primitive read input at = rw (← is, schemas.rolls-Int logical, reads-Int logical input at) (plain_num _)
plain_layer (types.Long logical) schema is primitive read input at = rw (← is, schemas.rolls-Long logical, reads-Long logical input at) (plain_num _)
plain_layer types.Str schema is primitive read input at = rw (← is, schemas.rolls-Str, reads-Str input at) (plain_text _)
plain_layer types.Raw schema is primitive read input at = rw (← is, schemas.rolls-Raw, reads-Raw input at) (plain_bytes _)
plain_layer types.Null schema is primitive read input at = absurd (none-some _ read)
plain_layer types.Float schema is primitive read input at = absurd (none-some _ read)
plain_layer types.Double schema is primitive read input at = absurd (none-some _ read)
plain_layer (types.Fixed name size) schema is primitive read input at = absurd (none-some _ read)
plain_layer (types.Enum name symbols) schema is primitive read input at = absurd (none-some _ read)
plain_layer (types.Rec name fields) schema is primitive read input at = absurd (none-some _ read)
plain_layer (types.Array items id keyed) schema is primitive read input at = absurd (none-some _ read)
plain_layer (types.Map values key value) schema is primitive read input at = absurd (none-some _ read)
plain_layer (types.Union branches) schema is primitive read input at = absurd (none-some _ read)

-- a primitive type, read in a branch
branch_reads : (schema : Schema) (primitive : Primitive) → primitive_of (out-Schema schema) ≡ Some primitive → (place : ℕ) (input : List ℕ) (at : Cursor) → primitive_at primitive input at ≡ as_cell (chosen place (datum_at schema input at))
branch_reads schema primitive read place input at =
    primitive_reads schema primitive read input at
    ∙ sym (chosen_cell place (datum_at schema input at) (plain_layer (out-Schema schema) schema (roll-out-Schema schema) primitive read input at))

-- null in a branch
null_layer : (layer : Level) (schema : Schema) → roll-Schema layer ≡ schema → is_null layer ≡ true → (place : ℕ) (input : List ℕ) (at : Cursor) → Ok (cells.Null, at) ≡ as_cell (chosen place (datum_at schema input at))
null_layer types.Null schema is null place input at =
    rw (← is, schemas.rolls-Null, reads-Null input at) (ap (λ (cell : Cell). Ok (cell, at)) (sym (ap cell_of_level (datums.outs-Branch place datums.Null) ∙ ap plain_cell datums.outs-Null)))
null_layer types.Boolean schema is null place input at = absurd (false≢true null)
null_layer (types.Int logical) schema is null place input at = absurd (false≢true null)
null_layer (types.Long logical) schema is null place input at = absurd (false≢true null)
null_layer types.Float schema is null place input at = absurd (false≢true null)
null_layer types.Double schema is null place input at = absurd (false≢true null)
null_layer types.Raw schema is null place input at = absurd (false≢true null)
null_layer types.Str schema is null place input at = absurd (false≢true null)
null_layer (types.Fixed name size) schema is null place input at = absurd (false≢true null)
null_layer (types.Enum name symbols) schema is null place input at = absurd (false≢true null)
null_layer (types.Rec name fields) schema is null place input at = absurd (false≢true null)
null_layer (types.Array items id keyed) schema is null place input at = absurd (false≢true null)
null_layer (types.Map values key value) schema is null place input at = absurd (false≢true null)
null_layer (types.Union branches) schema is null place input at = absurd (false≢true null)

null_reads : (schema : Schema) → is_null (out-Schema schema) ≡ true → (place : ℕ) (input : List ℕ) (at : Cursor) → Ok (cells.Null, at) ≡ as_cell (chosen place (datum_at schema input at))
null_reads schema = null_layer (out-Schema schema) schema (roll-out-Schema schema)

-- ---- unions of two

-- what follows the number of a branch
abbrev Follows : Type 0 → Type 0
Follows A = ℕ × Cursor → Result (A × Cursor) DatumRefusal

-- as there are two branches, the same follows where it does for each of them
by_number : (cell : Follows Cell) (value : Follows Datum) → ((after : Cursor) → cell (0, after) ≡ as_cell (value (0, after))) → ((after : Cursor) → cell (1, after) ≡ as_cell (value (1, after)))
    → (place : ℕ) (number : ℤ) (after : Cursor) → map_value (λ n. (n, after)) (within place 2 number) >>= cell ≡ as_cell (map_value (λ n. (n, after)) (within place 2 number) >>= value)
by_number cell value first second place (pos zero) after = first after
by_number cell value first second place (pos (suc zero)) after = second after
by_number cell value first second place (pos (suc (suc n))) after = rw (le-ltb (suc (suc n)) 2 (omega arith)) refl
by_number cell value first second place (negsuc n) after = refl

by_choice : (cell : Follows Cell) (value : Follows Datum) → ((after : Cursor) → cell (0, after) ≡ as_cell (value (0, after))) → ((after : Cursor) → cell (1, after) ≡ as_cell (value (1, after)))
    → (input : List ℕ) (at : Cursor) → choice_at 2 input at >>= cell ≡ as_cell (choice_at 2 input at >>= value)
unfolding choice_at
by_choice cell value first second input at = by_read (number_from int input at)
  where
    by_read : (read : Result (ℤ × Cursor) DatumRefusal) → (read >>= λ number. map_value (λ n. (n, number.1)) (within at.place 2 number.0)) >>= cell ≡ as_cell ((read >>= λ number. map_value (λ n. (n, number.1)) (within at.place 2 number.0)) >>= value)
    by_read (Ok number) = by_number cell value first second at.place number.0 number.1
    by_read (Err refusal) = refl

-- ---- the form of a type

-- beside null in the first branch
first_null : (first second : Schema) (primitive : Primitive) → is_null (out-Schema first) ≡ true → primitive_of (out-Schema second) ≡ Some primitive → (input : List ℕ) (at : Cursor)
    → beside_null_at primitive (Some 0) input at ≡ as_cell (choice_at 2 input at >>= λ choice. branch_at (datum_at first ∷ datum_at second ∷ []) choice.0 choice.0 input choice.1)
unfolding branch_at
first_null first second primitive null read input at =
    by_choice (λ choice. if choice.0 == 0 then Ok (cells.Null, choice.1) else primitive_at primitive input choice.1) (λ choice. branch_at (datum_at first ∷ datum_at second ∷ []) choice.0 choice.0 input choice.1)
    (λ after. null_reads first null 0 input after)
    (λ after. branch_reads second primitive read 1 input after) input at

-- beside null in the second branch
second_null : (first second : Schema) (primitive : Primitive) → is_null (out-Schema second) ≡ true → primitive_of (out-Schema first) ≡ Some primitive → (input : List ℕ) (at : Cursor)
    → beside_null_at primitive (Some 1) input at ≡ as_cell (choice_at 2 input at >>= λ choice. branch_at (datum_at first ∷ datum_at second ∷ []) choice.0 choice.0 input choice.1)
unfolding branch_at
second_null first second primitive null read input at =
    by_choice (λ choice. if choice.0 == 1 then Ok (cells.Null, choice.1) else primitive_at primitive input choice.1) (λ choice. branch_at (datum_at first ∷ datum_at second ∷ []) choice.0 choice.0 input choice.1)
    (λ after. branch_reads first primitive read 0 input after)
    (λ after. null_reads second null 1 input after) input at

-- the form that is found reads so
abbrev FormReads : Schema → Option Form → Type 0
FormReads schema None = Unit {0}
FormReads schema (Some form) = (input : List ℕ) (at : Cursor) → form_at form input at ≡ cell_read schema input at

-- of a type that is no union
bare : (schema : Schema) (primitive : Option Primitive) → primitive_of (out-Schema schema) ≡ primitive → FormReads schema (form_with None primitive)
bare schema None read = tt
bare schema (Some primitive) read = primitive_reads schema primitive read

-- of a union of two, one of which is null
null_first : (first second : Schema) (primitive : Option Primitive) → is_null (out-Schema first) ≡ true → primitive_of (out-Schema second) ≡ primitive → FormReads (schemas.Union (first ∷ second ∷ [])) (form_with (Some 0) primitive)
null_first first second None null read = tt
null_first first second (Some primitive) null read = λ input at.
    first_null first second primitive null read input at ∙ ap as_cell (sym (reads-Union (first ∷ second ∷ []) input at))

null_second : (first second : Schema) (primitive : Option Primitive) → is_null (out-Schema second) ≡ true → primitive_of (out-Schema first) ≡ primitive → FormReads (schemas.Union (first ∷ second ∷ [])) (form_with (Some 1) primitive)
null_second first second None null read = tt
null_second first second (Some primitive) null read = λ input at.
    second_null first second primitive null read input at ∙ ap as_cell (sym (reads-Union (first ∷ second ∷ []) input at))

-- by which of two branches are null
of_two : (first second : Schema) (a b : Bool) → is_null (out-Schema first) ≡ a → is_null (out-Schema second) ≡ b → FormReads (schemas.Union (first ∷ second ∷ [])) (form_as (types.Union (first ∷ second ∷ [])) (beside_null a b first second))
of_two first second true true is_first is_second = tt
of_two first second true false is_first is_second = rw is_first (null_first first second _ is_first refl)
of_two first second false true is_first is_second = rw is_first (null_second first second _ is_second refl)
of_two first second false false is_first is_second = tt

-- of the branches of a union
of_union : (branches : List Schema) → FormReads (schemas.Union branches) (form_as (types.Union branches) (of_branches branches))
of_union [] = tt
of_union (first ∷ []) = tt
of_union (first ∷ second ∷ []) = of_two first second _ _ refl refl
of_union (first ∷ second ∷ third ∷ others) = tt

-- of a layer of a type
of_layer : (layer : Level) (schema : Schema) → roll-Schema layer ≡ schema → out-Schema schema ≡ layer → FormReads schema (form_as layer (nullable_level schema layer))
of_layer (types.Union branches) schema is out = rw (← is, schemas.rolls-Union branches) (of_union branches)
of_layer types.Null schema is out = bare schema _ refl
of_layer types.Boolean schema is out = bare schema _ refl
of_layer (types.Int logical) schema is out = bare schema _ refl
of_layer (types.Long logical) schema is out = bare schema _ refl
of_layer types.Float schema is out = bare schema _ refl
of_layer types.Double schema is out = bare schema _ refl
of_layer types.Raw schema is out = bare schema _ refl
of_layer types.Str schema is out = bare schema _ refl
of_layer (types.Fixed name size) schema is out = bare schema _ refl
of_layer (types.Enum name symbols) schema is out = bare schema _ refl
of_layer (types.Rec name fields) schema is out = bare schema _ refl
of_layer (types.Array items id keyed) schema is out = bare schema _ refl
of_layer (types.Map values key value) schema is out = bare schema _ refl

-- the form of a type reads the cell of the value
pub form_reads : (schema : Schema) (form : Form) → form_of schema ≡ Some form → (input : List ℕ) (at : Cursor) → form_at form input at ≡ cell_read schema input at
form_reads schema form is =
    subst (FormReads schema) is (of_layer (out-Schema schema) schema (roll-out-Schema schema) refl)
