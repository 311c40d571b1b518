-- Which bytes spell which value of a schema: the encoding itself. Avro 1.11, "Binary encoding".
use Rattle.std.specs.Prelude.{◌≡◌, ℕ, zero, suc, ◌<◌, ◌≤◌, ℤ, pos, Bool, true, false, List, [], ◌∷◌, length}
use Rattle.std.specs.Str.{IsUtf8}
use Rattle.words.specs.Grammar.{Joined}
use Rattle.avro_wire.specs.Number.{Bounds, long, int, SpellsNumber}
use Rattle.avro_wire.specs.Blocks.{SpellsBytes, SpellsList}
use Rattle.schema_tree.specs.declared.schema.Schema.{Schema}
use Rattle.schema_tree.specs.declared.schema.Field.{Field}
use Rattle.schema_tree.specs.declared.schema.Schema.TheOpen.{Schema-F, Field-F, Null, Boolean, Int, Long, Float}
use Rattle.schema_tree.specs.declared.schema.Schema.TheOpen.{Double, Raw, Str, Fixed, Enum, Rec, Array, Map, Union}
use Rattle.schema_tree.specs.declared.schema.Schema.TheFolds.{rec-Schema, rec-Field}
use Rattle.datum_tree.specs.declared.datum.Datum.{Datum}
use Rattle.datum_tree.specs.declared.datum.Datum.TheVariants as datums
use Rattle.datum_tree.specs.Value.{items_in, most_items}

-- the bytes that spell a value
abbrev pub Spelling : Type 1
Spelling = Datum → List ℕ → Type 0

-- an int or a long
pub record SpellsNum (bounds : Bounds) (datum : Datum) (bytes : List ℕ) : Type 0 where
  pub number : ℤ
  pub value : datum ≡ datums.Num number
  pub spelled : SpellsNumber bounds bytes number

-- a boolean: 0 is false, and 1 is true
abbrev pub flag_byte : Bool → ℕ
flag_byte false = 0
flag_byte true = 1

pub record SpellsFlag (datum : Datum) (bytes : List ℕ) : Type 0 where
  pub flag : Bool
  pub value : datum ≡ datums.Flag flag
  pub spelled : bytes ≡ flag_byte flag ∷ []

-- so many bytes, as they are
pub record SpellsRaw (size : ℕ) (datum : Datum) (bytes : List ℕ) : Type 0 where
  pub value : datum ≡ datums.Raw bytes
  pub many : length bytes ≡ size

-- bytes after their length
pub record SpellsSized (datum : Datum) (bytes : List ℕ) : Type 0 where
  pub inside : List ℕ
  pub value : datum ≡ datums.Raw inside
  pub spelled : SpellsBytes inside bytes

-- text after its length
pub record SpellsText (text bytes : List ℕ) : Type 0 where
  pub is_text : IsUtf8 text
  pub spelled : SpellsBytes text bytes

pub record SpellsString (datum : Datum) (bytes : List ℕ) : Type 0 where
  pub text : List ℕ
  pub value : datum ≡ datums.Str text
  pub spelled : SpellsText text bytes

-- the place of a symbol, of `count`
pub record SpellsSymbol (many : ℕ) (datum : Datum) (bytes : List ℕ) : Type 0 where
  pub place : ℕ
  pub within : place < many
  pub value : datum ≡ datums.Num (pos place)
  pub spelled : SpellsNumber int bytes (pos place)

-- a value of each field, in the order of the fields
abbrev pub SpellsEach : {X : Type 0} → (X → Spelling) → List X → List Datum → List ℕ → Type 0
SpellsEach Spells [] [] bytes = bytes ≡ []
SpellsEach Spells [] (datum ∷ others) bytes = ⊥
SpellsEach Spells (field ∷ fields) [] bytes = ⊥
SpellsEach Spells (field ∷ fields) (datum ∷ others) bytes =
    Joined (Spells field datum) (SpellsEach Spells fields others) bytes

-- a record, by what spells its values
pub record SpellsFields (SpellsValues : List Datum → List ℕ → Type 0) (datum : Datum) (bytes : List ℕ) : Type 0 where
  pub values : List Datum
  pub value : datum ≡ datums.Rec values
  pub spelled : SpellsValues values bytes

-- items in blocks
pub record SpellsArray (Spells : Spelling) (datum : Datum) (bytes : List ℕ) : Type 0 where
  pub items : List Datum
  pub value : datum ≡ datums.Array items
  pub spelled : SpellsList Spells items bytes

-- a key and its value
abbrev pub SpellsPair : Spelling → List ℕ × Datum → List ℕ → Type 0
SpellsPair Spells pair bytes = Joined (SpellsText pair.0) (Spells pair.1) bytes

-- pairs in blocks
pub record SpellsMap (Spells : Spelling) (datum : Datum) (bytes : List ℕ) : Type 0 where
  pub pairs : List (List ℕ × Datum)
  pub value : datum ≡ datums.Map pairs
  pub spelled : SpellsList (SpellsPair Spells) pairs bytes

-- a value of the branch at the place
abbrev pub SpellsBranch : {X : Type 0} → (X → Spelling) → List X → ℕ → Spelling
SpellsBranch Spells [] place datum bytes = ⊥
SpellsBranch Spells (branch ∷ branches) zero datum bytes = Spells branch datum bytes
SpellsBranch Spells (branch ∷ branches) (suc place) datum bytes = SpellsBranch Spells branches place datum bytes

-- the place of a branch, and a value of it, by what spells one of the branch at a place
pub record SpellsUnion (SpellsInside : ℕ → Spelling) (datum : Datum) (bytes : List ℕ) : Type 0 where
  pub place : ℕ
  pub inside : Datum
  pub value : datum ≡ datums.Branch place inside
  pub spelled : Joined (λ front. SpellsNumber int front (pos place)) (SpellsInside place inside) bytes

-- the bytes that spell a value of a schema, by those of the schemas in it
abbrev pub spelling_of : (X X' : Type 0) → (X → Schema) → (X' → Field) → (X → Spelling) → (X' → Spelling)
    → Schema-F X X' → Spelling
spelling_of X X' schema field Spells SpellsField Null datum bytes = (datum ≡ datums.Null) × (bytes ≡ [])
spelling_of X X' schema field Spells SpellsField Boolean datum bytes = SpellsFlag datum bytes
spelling_of X X' schema field Spells SpellsField (Int logical) datum bytes = SpellsNum int datum bytes
spelling_of X X' schema field Spells SpellsField (Long logical) datum bytes = SpellsNum long datum bytes
spelling_of X X' schema field Spells SpellsField Float datum bytes = SpellsRaw 4 datum bytes
spelling_of X X' schema field Spells SpellsField Double datum bytes = SpellsRaw 8 datum bytes
spelling_of X X' schema field Spells SpellsField Raw datum bytes = SpellsSized datum bytes
spelling_of X X' schema field Spells SpellsField Str datum bytes = SpellsString datum bytes
spelling_of X X' schema field Spells SpellsField (Fixed name size) datum bytes = SpellsRaw size datum bytes
spelling_of X X' schema field Spells SpellsField (Enum name symbols) datum bytes =
    SpellsSymbol (length symbols) datum bytes
spelling_of X X' schema field Spells SpellsField (Rec name fields) datum bytes =
    SpellsFields (SpellsEach SpellsField fields) datum bytes
spelling_of X X' schema field Spells SpellsField (Array items element_id keyed) datum bytes =
    SpellsArray (Spells items) datum bytes
spelling_of X X' schema field Spells SpellsField (Map values key_id value_id) datum bytes =
    SpellsMap (Spells values) datum bytes
spelling_of X X' schema field Spells SpellsField (Union branches) datum bytes =
    SpellsUnion (SpellsBranch Spells branches) datum bytes

-- a field's value is one of its schema
abbrev pub field_spelling_of : (X X' : Type 0) → (X → Schema) → (X' → Field) → (X → Spelling) → (X' → Spelling)
    → Field-F X X' → Spelling
field_spelling_of X X' schema field Spells SpellsField this = Spells this.schema

-- the bytes spell the value under the schema
abbrev pub Spells : Schema → Spelling
Spells = rec-Schema Spelling Spelling spelling_of field_spelling_of

-- the bytes spell a value of the field
abbrev pub SpellsField : Field → Spelling
SpellsField = rec-Field Spelling Spelling spelling_of field_spelling_of

-- the bytes spell the value, which has no more items of arrays and maps than a value may have
pub record IsEncoding (schema : Schema) (datum : Datum) (bytes : List ℕ) : Type 0 where
  pub spelled : Spells schema datum bytes
  pub few : items_in datum ≤ most_items
