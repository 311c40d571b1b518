-- Schemas under which the same bytes are passed.
use Rattle.std.specs.Prelude.{◌≡◌, ℕ, List, [], Ok}
use Rattle.std.specs.List.{AllZip}
use Rattle.words.specs.Reading.{◌>>=◌}
use Rattle.schema_tree.specs.declared.schema.Schema.{Schema}
use Rattle.schema_tree.specs.declared.schema.Field.{Field}
use Rattle.datum_reading.specs.declared.cursor.Cursor.{Cursor}
use Rattle.datum_reading.specs.Reading.{fields_at, datum_at}
use Rattle.datum_reading.specs.Readers.{readers_of, passed}

-- each value ends at the same place under both schemas, and is refused alike
abbrev pub IsPassedAs : Schema → Schema → Type 0
IsPassedAs schema other =
    (input : List ℕ) (at : Cursor) → passed (datum_at schema input at) ≡ passed (datum_at other input at)

-- so do the values of some fields, and those of others
abbrev pub ArePassedAs : List Field → List Field → Type 0
ArePassedAs fields others = (input : List ℕ) (at : Cursor)
    → passed (fields_at (readers_of fields) [] input at) ≡ passed (fields_at (readers_of others) [] input at)

-- so does a value of each branch
abbrev pub EachIsPassedAs : List Schema → List Schema → Type 0
EachIsPassedAs branches others = AllZip IsPassedAs branches others

-- its values end where they begin, and none is refused
abbrev pub TakesNothing : Schema → Type 0
TakesNothing schema = (input : List ℕ) (at : Cursor) → passed (datum_at schema input at) ≡ Ok at

-- a field of the schema stands behind those before it, or its values take nothing and it is left out
pub record AddsField (before after : List Field) (schema : Schema) : Type 0 where
  pub added : (input : List ℕ) (at : Cursor) → passed (fields_at (readers_of after) [] input at)
      ≡ (passed (fields_at (readers_of before) [] input at) >>= λ behind. passed (datum_at schema input behind))
