-- Which value the bytes at a place spell under a schema, or the first item that has no spelling.
-- Avro 1.11, "Binary encoding".
use Rattle.std.specs.Prelude.{ℕ, zero, suc, ◌+◌, ◌-◌, ◌==◌, ℤ, pos, negsuc, Bool, true, false, List, [], ◌∷◌, ◌++◌}
use Rattle.std.specs.Prelude.{length, Option, Some, None, Result, Ok, Err, nat_lt, slice_get, slice_range}
use Rattle.std.specs.Prelude.{if◌then◌else◌}
use Rattle.std.specs.Str.{is_utf8}
use Rattle.words.specs.Reading.{◌>>=◌, map_refusal, map_value, repeated}
use Rattle.avro_wire.specs.Number.{long, int, Bounds}
use Rattle.avro_wire.specs.Reading.{number_at, bytes_at}
use Rattle.schema_tree.specs.declared.schema.Schema.{Schema}
use Rattle.schema_tree.specs.declared.schema.Schema.TheOpen.{Schema-F, Field-F, Null, Boolean, Int, Long, Float}
use Rattle.schema_tree.specs.declared.schema.Schema.TheOpen.{Double, Raw, Str, Fixed, Enum, Rec, Array, Map, Union}
use Rattle.schema_tree.specs.declared.schema.Schema.TheFolds.{fold-Schema}
use Rattle.datum_reading.specs.declared.cursor.Cursor.{Cursor}
use Rattle.datum_tree.specs.declared.datum.Datum.{Datum}
use Rattle.datum_tree.specs.declared.datum.Datum.TheVariants as datums
use Rattle.datum_reading.specs.declared.refusal.DatumRefusal.{DatumRefusal}
use Rattle.datum_reading.specs.declared.refusal.DatumRefusal.TheVariants.{Short, Flag, Branch, Utf8, Size, Items}
use Rattle.datum_reading.specs.Refusal.{wire_refusal}
use Rattle.datum_tree.specs.Value.{most_items}

-- ---- items that hold no other

-- a cursor that stands somewhere else
abbrev pub moved : Cursor → ℕ → Cursor
moved at place = record { place = place; items = at.items }

-- a number
unfoldable pub number_from : Bounds → List ℕ → Cursor → Result (ℤ × Cursor) DatumRefusal
number_from bounds input at =
    map_value (λ taken. (taken.0, moved at taken.1)) (map_refusal wire_refusal (number_at bounds input at.place))

-- an int or a long
abbrev pub num_at : Bounds → List ℕ → Cursor → Result (Datum × Cursor) DatumRefusal
num_at bounds input at = map_value (λ taken. (datums.Num taken.0, taken.1)) (number_from bounds input at)

-- the byte of a boolean: 0 is false, and 1 is true
abbrev pub flag_of : ℕ → Cursor → Result (Datum × Cursor) DatumRefusal
flag_of byte at =
    if byte == 0 then Ok (datums.Flag false, moved at (at.place + 1))
    else (if byte == 1 then Ok (datums.Flag true, moved at (at.place + 1))
    else Err (Flag at.place))

abbrev pub flag_at : Option ℕ → Cursor → Result (Datum × Cursor) DatumRefusal
flag_at None at = Err (Short at.place)
flag_at (Some byte) at = flag_of byte at

-- so many bytes
unfoldable pub raw_at : ℕ → List ℕ → Cursor → Result (Datum × Cursor) DatumRefusal
raw_at size input at =
    if nat_lt (length input - at.place) size then Err (Short at.place)
    else Ok (datums.Raw (slice_range input at.place (at.place + size)), moved at (at.place + size))

-- bytes after their length
unfoldable pub sized_at : List ℕ → Cursor → Result (List ℕ × Cursor) DatumRefusal
sized_at input at =
    map_value (λ taken. (slice_range input taken.0 taken.1, moved at taken.1))
    (map_refusal wire_refusal (bytes_at input at.place))

-- text after its length
unfoldable pub text_at : List ℕ → Cursor → Result (List ℕ × Cursor) DatumRefusal
text_at input at = sized_at input at >>= λ taken. if is_utf8 taken.0 then Ok taken else Err (Utf8 at.place)

-- the number of a branch or a symbol: an int from 0 on, below how many there are
abbrev pub within : ℕ → ℕ → ℤ → Result ℕ DatumRefusal
within place many (pos n) = if nat_lt n many then Ok n else Err (Branch place)
within place many (negsuc n) = Err (Branch place)

unfoldable pub choice_at : ℕ → List ℕ → Cursor → Result (ℕ × Cursor) DatumRefusal
choice_at many input at =
    number_from int input at >>= λ number. map_value (λ n. (n, number.1)) (within at.place many number.0)

-- ---- items, in order, over the reader of each

-- what is read at a place of the input, and where the next item begins
abbrev pub Reads : Type 0 → Type 0
Reads A = List ℕ → Cursor → Result (A × Cursor) DatumRefusal

abbrev pub Reader : Type 0
Reader = Reads Datum

-- the fields of a record, after those before them
unfoldable pub fields_at : List Reader → List Datum → List ℕ → Cursor → Result (List Datum × Cursor) DatumRefusal
fields_at [] before input at = Ok (before, at)
fields_at (field ∷ fields) before input at =
    field input at >>= λ read. fields_at fields (before ++ read.0 ∷ []) input read.1

-- a key and its value
abbrev pub pair_at : Reader → Reads (List ℕ × Datum)
pair_at value input at = text_at input at >>= λ key. map_value (λ read. ((key.0, read.0), read.1)) (value input key.1)

-- one item more, after those before it
abbrev pub item_at : {A : Type 0} → Reads A → List ℕ → List A × Cursor → Result (List A × Cursor) DatumRefusal
item_at item input (before, at) = map_value (λ read. (before ++ read.0 ∷ [], read.1)) (item input at)

-- so many items, after those before them
unfoldable pub items_at : {A : Type 0} → Reads A → ℕ → List A → List ℕ → Cursor → Result (List A × Cursor) DatumRefusal
items_at item count before input at = repeated (item_at item input) count (before, at)

-- ---- blocks of items. Avro 1.11, "Arrays", "Maps"

-- the cursor after a block's count, where the value may have that many items more; the count began at the place
abbrev pub with_count : ℕ → ℕ → Cursor → Result Cursor DatumRefusal
with_count place count at =
    if nat_lt most_items (at.items + count) then Err (Items place) else Ok
    (record { place = at.place; items = at.items + count })

-- the number is this natural one
abbrev pub is_natural : ℤ → ℕ → Bool
is_natural (pos m) n = m == n
is_natural (negsuc m) n = false

-- a block that tells its size in bytes, which has to be true
unfoldable pub sized_block_at : {A : Type 0} → Reads A → ℕ → List A → List ℕ → Cursor
    → Result (List A × Cursor) DatumRefusal
sized_block_at item count before input at = do
  size ← number_from long input at
  block ← items_at item count before input size.1
  if is_natural size.0 (block.1.place - size.1.place) then Ok block else Err (Size at.place)

-- a block, by its count, which began at the place: a negative one is followed by the size
abbrev pub block_at : {A : Type 0} → Reads A → ℕ → List A → List ℕ → ℤ × Cursor → Result (List A × Cursor) DatumRefusal
block_at item place before input (pos count, at) =
    with_count place count at >>= λ after. items_at item count before input after
block_at item place before input (negsuc count, at) =
    with_count place (suc count) at >>= λ after. sized_block_at item (suc count) before input after

-- blocks up to the count 0, after the items before them
-- no value has more blocks than the input has bytes, so the tries don't run out
unfoldable pub blocks_at : {A : Type 0} → Reads A → ℕ → List A → List ℕ → Cursor → Result (List A × Cursor) DatumRefusal
blocks_at item zero before input at = Err (Short at.place)
blocks_at item (suc tries) before input at = do
  count ← number_from long input at
  if is_natural count.0 0 then Ok (before, count.1) else (do
    block ← block_at item at.place before input count
    blocks_at item tries block.0 input block.1)

-- all items of an array or a map
abbrev pub all_at : {A : Type 0} → Reads A → List ℕ → Cursor → Result (List A × Cursor) DatumRefusal
all_at item input at = blocks_at item (suc (length input)) [] input at

-- ---- a value

-- the branch of this number, where there is one
unfoldable pub branch_at : List Reader → ℕ → ℕ → List ℕ → Cursor → Result (Datum × Cursor) DatumRefusal
branch_at [] number chosen input at = Err (Branch at.place)
branch_at (branch ∷ branches) zero chosen input at =
    map_value (λ read. (datums.Branch chosen read.0, read.1)) (branch input at)
branch_at (branch ∷ branches) (suc number) chosen input at = branch_at branches number chosen input at

-- a value of a schema, over the readers of the schemas in it
abbrev pub layer_at : Schema-F Reader Reader → Reader
layer_at Null input at = Ok (datums.Null, at)
layer_at Boolean input at = flag_at (slice_get input at.place) at
layer_at (Int logical) input at = num_at int input at
layer_at (Long logical) input at = num_at long input at
layer_at Float input at = raw_at 4 input at
layer_at Double input at = raw_at 8 input at
layer_at Raw input at = map_value (λ read. (datums.Raw read.0, read.1)) (sized_at input at)
layer_at Str input at = map_value (λ read. (datums.Str read.0, read.1)) (text_at input at)
layer_at (Fixed name size) input at = raw_at size input at
layer_at (Enum name symbols) input at =
    map_value (λ read. (datums.Num (pos read.0), read.1)) (choice_at (length symbols) input at)
layer_at (Rec name fields) input at = map_value (λ read. (datums.Rec read.0, read.1)) (fields_at fields [] input at)
layer_at (Array items element_id keyed) input at =
    map_value (λ read. (datums.Array read.0, read.1)) (all_at items input at)
layer_at (Map values key_id value_id) input at =
    map_value (λ read. (datums.Map read.0, read.1)) (all_at (pair_at values) input at)
layer_at (Union branches) input at =
    choice_at (length branches) input at >>= λ choice. branch_at branches choice.0 choice.0 input choice.1

-- a field is read as its schema
abbrev pub field_reader : Field-F Reader Reader → Reader
field_reader field = field.schema

-- the value that the bytes at a place spell under the schema, and the place after it
abbrev pub datum_at : Schema → Reader
datum_at = fold-Schema Reader Reader layer_at field_reader

-- the same, without the value
abbrev pub passed_at : Schema → List ℕ → Cursor → Result Cursor DatumRefusal
passed_at schema input at = map_value (λ read. read.1) (datum_at schema input at)
