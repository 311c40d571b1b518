-- Wanted fields that stand in the order of a record's fields, behind those that the record doesn't have.
use Rattle.std.specs.Prelude.{◌≡◌, ℕ, zero, suc, ◌+◌, List, [], ◌∷◌, ◌++◌, replicate, Option, Some, None}

-- so many places, from one on
unfoldable pub places_from : ℕ → ℕ → List (Option ℕ)
places_from place zero = []
places_from place (suc many) = Some place ∷ places_from (place + 1) many

-- no field holds the first so many; each of `many` others is held by the field at its place
abbrev pub AreInOrder : List (Option ℕ) → ℕ → ℕ → Type 0
AreInOrder sources many missing = sources ≡ replicate missing None ++ places_from 0 many
