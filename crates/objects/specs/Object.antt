-- One object that is read from bytes: by a reading, and by a relation.
use Rattle.std.specs.Prelude.{◌≡◌, ℕ, List, Result, Ok}
use Rattle.words.specs.Reading.{map_value}
use Rattle.words.specs.Parts.{Stand, Took}

-- what is read at a place of the input, and the place after it, or the first refusal
abbrev pub Reader : Type 0 → Type 0 → Type 0
Reader V E = List ℕ → ℕ → Result (V × ℕ) E

-- the place after what is read
abbrev pub place_behind : {V E : Type 0} → Result (V × ℕ) E → Result ℕ E
place_behind read = map_value (λ taken. taken.1) read

-- what is read is encoded so, and what is encoded so is read
pub record Agrees {V E : Type 0} (read : Reader V E) (Spells : V → List ℕ → Type 0) : Type 0 where
  pub sound : (input : List ℕ) (place : ℕ) (taken : V × ℕ) → read input place ≡ Ok taken
      → Took input place taken.1 (Spells taken.0)
  pub complete : (input : List ℕ) (place after : ℕ) (value : V) (bytes : List ℕ) → Spells value bytes
      → Stand input place after bytes → read input place ≡ Ok (value, after)
