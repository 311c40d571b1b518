-- What the takes answer: the item at a place, and the place after it, or the first refusal.
use Rattle.std.specs.Prelude.{ℕ, ◌+◌, ◌-◌, ℤ, pos, negsuc, Bool, List, length, take, drop, Result, Ok, Err, nat_lt}
use Rattle.std.specs.Prelude.{nat_le, if◌then◌else◌}
use Rattle.std.specs.List.{prefix_len}
use Rattle.words.specs.Reading.{◌>>=◌}
use Rattle.avro_wire.specs.declared.refusal.WireRefusal.{WireRefusal}
use Rattle.avro_wire.specs.declared.refusal.WireRefusal.TheVariants.{Short, TooLong}
use Rattle.avro_wire.specs.Number.{Bounds, long, groups_value, unzigzag}

-- another byte of the number follows
abbrev pub has_high_bit : ℕ → Bool
has_high_bit b = nat_le 128 b

-- how many bytes from the place on have the high bit set, up to the first that has not
abbrev pub high_bytes : List ℕ → ℕ → ℕ
high_bytes input place = prefix_len has_high_bit (drop place input)

-- the bytes of the number at the place: those with the high bit, and the one after them
abbrev pub number_bytes : List ℕ → ℕ → List ℕ
number_bytes input place = take (high_bytes input place + 1) (drop place input)

-- the value of the number's groups
unfoldable pub groups_at : Bounds → List ℕ → ℕ → Result (ℕ × ℕ) WireRefusal
groups_at bounds input place =
    if nat_le bounds.bytes (high_bytes input place) then Err (TooLong place)
    else (if nat_le (length input) (place + high_bytes input place) then Err (Short place)
    else (if nat_lt bounds.largest (groups_value (number_bytes input place)) then Err (TooLong place)
    else Ok (groups_value (number_bytes input place), place + high_bytes input place + 1)))

-- a number
unfoldable pub number_at : Bounds → List ℕ → ℕ → Result (ℤ × ℕ) WireRefusal
number_at bounds input place = do
  groups ← groups_at bounds input place
  Ok (unzigzag groups.0, groups.1)

-- what lies after a length: where it starts and where it ends
abbrev pub range_behind : ℕ → List ℕ → ℤ × ℕ → Result (ℕ × ℕ) WireRefusal
range_behind place input (pos n, start) =
    if nat_lt (length input - start) n then Err (Short place) else Ok (start, start + n)
range_behind place input (negsuc n, start) = Err (TooLong place)

-- a length and that many bytes
unfoldable pub bytes_at : List ℕ → ℕ → Result (ℕ × ℕ) WireRefusal
bytes_at input place = number_at long input place >>= λ length. range_behind place input length
