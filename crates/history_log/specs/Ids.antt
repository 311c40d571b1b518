-- Ids that rise, tested from the first one on.
use Rattle.std.specs.Prelude.{ℤ, pos, ◌+ℤ◌, int_lt, Bool, false, not, ◌&&◌, List, [], ◌∷◌, Option, Some, None}

-- each id is from the floor on, which is then the next number, and at the end the floor is not above the high one
abbrev pub rise_within : ℤ → ℤ → List ℤ → Bool
rise_within floor high [] = not (int_lt high floor)
rise_within floor high (id ∷ ids) = not (int_lt id floor) && rise_within (id +ℤ pos 1) high ids

-- the same, where a floor is left
abbrev pub rise_behind : Option ℤ → ℤ → List ℤ → Bool
rise_behind None high ids = false
rise_behind (Some floor) high ids = rise_within floor high ids
