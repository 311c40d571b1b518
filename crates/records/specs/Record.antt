-- The records of a schema as values that are made of their wanted cells.
use Rattle.std.specs.Prelude.{◌≡◌, ℕ, List, Result}
use Rattle.words.specs.Reading.{map_refusal, map_value}
use Rattle.row_types.specs.declared.cell.Cell.{Cell}
use Rattle.schema_tree.specs.declared.schema.Schema.{Schema}
use Rattle.fields.specs.declared.wanted.Wanted.{Wanted}
use Rattle.fields.specs.declared.refusal.FieldRefusal.{FieldRefusal}
use Rattle.fields.specs.Record.{Stores, record_at}

-- the bytes are a record with these cells, of which the value is made
pub record Means {V : Type 0} (made : List Cell → V) (schema : Schema) (wanted : List Wanted) (value : V)
    (bytes : List ℕ) : Type 0 where
  pub cells : List Cell
  pub value_is : value ≡ made cells
  pub stored : Stores schema wanted cells bytes

-- what is read of a record, as a value
abbrev pub as_value : {V E : Type 0} → (List Cell → V) → (FieldRefusal → E) → Result (List Cell × ℕ) FieldRefusal
    → Result (V × ℕ) E
as_value made refused read = map_refusal refused (map_value (λ read. (made read.0, read.1)) read)

-- the value at a place, and the place after it
abbrev pub value_at : {V E : Type 0} → (List Cell → V) → (FieldRefusal → E) → Schema → List Wanted → List ℕ → ℕ
    → Result (V × ℕ) E
value_at made refused schema wanted input place = as_value made refused (record_at schema wanted input place)
