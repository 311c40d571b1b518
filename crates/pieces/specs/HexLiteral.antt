-- Bytes as an x and two lower-case hexadecimal digits for each.
use Rattle.std.specs.Prelude.{ℕ, ◌+◌, ◌-◌, ◌*◌, Bool, false, ◌&&◌, List, [], ◌∷◌, ◌++◌, drop, Option, Some, None}
use Rattle.std.specs.Prelude.{is_some, Result, Ok, Err, nat_lt, codes, if◌then◌else◌}
use Rattle.std.specs.List.{list_all}
use Rattle.hex.specs.Hex.{encode_lower}
use Rattle.words.specs.Reading.{◌>>=◌}
use Rattle.pieces.specs.declared.refusal.PieceRefusal.{PieceRefusal}
use Rattle.pieces.specs.declared.refusal.PieceRefusal.TheVariants.{Syntax}
use Rattle.pieces.specs.Word.{byte_at}

-- ---- as it is printed

abbrev pub hex_text : List ℕ → List ℕ
hex_text bytes = codes "x" ++ encode_lower bytes

-- ---- as it is read

-- what a digit from 0 to 9 or a to f stands for
abbrev pub hex_digit : ℕ → Option ℕ
hex_digit byte =
    if nat_lt 47 byte && nat_lt byte 58 then Some (byte - 48)
    else (if nat_lt 96 byte && nat_lt byte 103 then Some (byte - 87)
    else None)

-- the rest of the digits after what was read: the bytes, and the place after them.
-- A byte whose first digit was read has a second one
unfoldable pub pairs_at : Option ℕ → List ℕ → List ℕ → ℕ → Result (List ℕ × ℕ) PieceRefusal
pairs_at None bytes [] place = Ok (bytes, place)
pairs_at (Some high) bytes [] place = Err (Syntax place)
pairs_at None bytes (byte ∷ rest) place =
    go (hex_digit byte) (λ high. pairs_at (Some high) bytes rest (place + 1)) bytes place where
      go : Option ℕ → (ℕ → Result (List ℕ × ℕ) PieceRefusal) → List ℕ → ℕ → Result (List ℕ × ℕ) PieceRefusal
      go None next read at = Ok (read, at)
      go (Some digit) next read at = next digit
pairs_at (Some high) bytes (byte ∷ rest) place =
    go (hex_digit byte) (λ low. pairs_at None (bytes ++ (high * 16 + low) ∷ []) rest (place + 1)) place where
      go : Option ℕ → (ℕ → Result (List ℕ × ℕ) PieceRefusal) → ℕ → Result (List ℕ × ℕ) PieceRefusal
      go None next at = Err (Syntax at)
      go (Some digit) next at = next digit

-- a bytes literal: the bytes that it stands for, and the place after it
abbrev pub hex_at : List ℕ → ℕ → Result (List ℕ × ℕ) PieceRefusal
hex_at input place = byte_at 120 input place >>= λ start. pairs_at None [] (drop start input) start

-- ---- what may follow, and what is read

-- the bytes begin with a hexadecimal digit
abbrev pub hex_begins : List ℕ → Bool
hex_begins [] = false
hex_begins (byte ∷ rest) = is_some (hex_digit byte)

-- all numbers are bytes
abbrev pub are_bytes : List ℕ → Bool
are_bytes bytes = list_all (λ byte. nat_lt byte 256) bytes
