-- Texts of digits, and the numbers of 64 bits.
use Rattle.std.specs.Prelude.{ℕ, ◌^◌, ◌-◌, ℤ, pos, negsuc, Bool, true, not, ◌&&◌, List, [], ◌∷◌, Option, Some, None}
use Rattle.std.specs.Prelude.{int_lt}
use Rattle.pieces.specs.Number.{is_digit}

-- each byte is a digit
abbrev pub all_digits : List ℕ → Bool
all_digits [] = true
all_digits (byte ∷ rest) = is_digit byte && all_digits rest

-- the number has 64 bits, with its sign
abbrev pub is_long : ℤ → Bool
is_long number = not (int_lt number (negsuc (2 ^ 63 - 1))) && int_lt number (pos (2 ^ 63))

-- the number is absent, or has 64 bits
abbrev pub is_long_or_none : Option ℤ → Bool
is_long_or_none None = true
is_long_or_none (Some number) = is_long number
