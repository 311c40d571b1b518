-- What the puts leave.
use Rattle.std.specs.Prelude.{◌≡◌, ℕ, List, length, take}

-- the bytes that were there still stand in front
abbrev pub IsFront : List ℕ → List ℕ → Type 0
IsFront before after = take (length before) after ≡ before
