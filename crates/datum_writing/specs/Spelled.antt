-- That the bytes which are written spell the value, part by part.
use Rattle.std.specs.Prelude.{◌≡◌, ℕ, zero, suc, ◌<◌, ◌^◌, true, List, [], ◌∷◌, length}
use Rattle.std.specs.List.{All}
use Rattle.std.specs.Str.{IsUtf8}
use Rattle.schema_tree.specs.declared.schema.Schema.{Schema}
use Rattle.schema_tree.specs.declared.schema.Field.{Field}
use Rattle.datum_tree.specs.declared.datum.Datum.{Datum}
use Rattle.datum_tree.specs.Fits.{fits_schema}
use Rattle.datum_writing.specs.Canonical.{canonical}
use Rattle.datum_tree.specs.Spelling.{Spells}

-- where the value fits, its bytes spell it
pub record IsSpelled (schema : Schema) (datum : Datum) : Type 0 where
  pub spells : fits_schema schema datum ≡ true → Spells schema datum (canonical schema datum)

-- bytes of which a long says how many they are
abbrev pub IsSized : List ℕ → Type 0
IsSized bytes = length bytes < 2 ^ 63

-- and that are text
abbrev pub IsSizedText : List ℕ → Type 0
IsSizedText text = IsSized text × IsUtf8 text

-- the value of each field, as far as there are both
abbrev pub EachIsSpelled : List Field → List Datum → Type 0
EachIsSpelled [] values = Unit {0}
EachIsSpelled (field ∷ fields) [] = Unit {0}
EachIsSpelled (field ∷ fields) (value ∷ values) = IsSpelled field.schema value × EachIsSpelled fields values

-- a key and its value
abbrev pub PairIsSpelled : Schema → List ℕ × Datum → Type 0
PairIsSpelled schema pair = IsSizedText pair.0 × IsSpelled schema pair.1

-- items, of which a long says how many they are
pub record AllAreSpelled {A : Type 0} (ItemIsSpelled : A → Type 0) (items : List A) : Type 0 where
  pub each : All ItemIsSpelled items
  pub few : length items < 2 ^ 63

-- a value of the branch at the place, where there is one
abbrev pub BranchIsSpelled : List Schema → ℕ → Datum → Type 0
BranchIsSpelled [] place inside = Unit {0}
BranchIsSpelled (branch ∷ branches) zero inside = IsSpelled branch inside
BranchIsSpelled (branch ∷ branches) (suc place) inside = BranchIsSpelled branches place inside
