-- How many objects a text may open: an object takes far more memory than its brace.
use Rattle.std.specs.Prelude.{ℕ, suc, Bool, List, [], ◌∷◌, ◌==◌, nat_lt, if◌then◌else◌}

-- the most opening braces
abbrev pub most_braces : ℕ
most_braces = 1000000

abbrev pub is_brace : ℕ → Bool
is_brace byte = byte == 123

-- how many opening braces there are, in strings too
abbrev pub braces : List ℕ → ℕ
braces [] = 0
braces (byte ∷ text) = if is_brace byte then suc (braces text) else braces text

-- there are more than that
abbrev pub has_too_many : List ℕ → Bool
has_too_many text = nat_lt most_braces (braces text)
