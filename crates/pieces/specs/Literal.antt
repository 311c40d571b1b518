-- Texts between quotes.
use Rattle.std.specs.Prelude.{ℕ, ◌+◌, ◌==◌, Bool, true, false, ◌||◌, List, [], ◌∷◌, ◌++◌, drop, Option, Some, None}
use Rattle.std.specs.Prelude.{Result, Ok, Err, codes, if◌then◌else◌}
use Rattle.std.specs.List.{flat_map}
use Rattle.words.specs.Reading.{◌>>=◌}
use Rattle.pieces.specs.declared.refusal.PieceRefusal.{PieceRefusal}
use Rattle.pieces.specs.declared.refusal.PieceRefusal.TheVariants.{Syntax}
use Rattle.pieces.specs.Word.{byte_at}

-- ---- as it is printed

-- a quote, a backslash, LF, CR and tab stand after a backslash; every other byte for itself
abbrev pub escape : ℕ → List ℕ
escape byte =
    if byte == 34 then codes "\\\""
    else (if byte == 92 then codes "\\\\"
    else (if byte == 10 then codes "\\n"
    else (if byte == 13 then codes "\\r"
    else (if byte == 9 then codes "\\t"
    else byte ∷ []))))

-- the text between quotes
abbrev pub literal_text : List ℕ → List ℕ
literal_text text = codes "\"" ++ (flat_map escape text ++ codes "\"")

-- ---- as it is read

-- the byte after a backslash for another one
abbrev pub unescaped : ℕ → Option ℕ
unescaped byte =
    if byte == 34 then Some 34
    else (if byte == 92 then Some 92
    else (if byte == 110 then Some 10
    else (if byte == 114 then Some 13
    else (if byte == 116 then Some 9
    else None))))

-- LF, CR and tab never stand for themselves
abbrev pub is_never_raw : ℕ → Bool
is_never_raw byte = byte == 10 || byte == 13 || byte == 9

-- the rest of a literal after what was read of it: the text, and the place after the closing quote.
-- After a backslash the next byte stands for another one
unfoldable pub rest_at : Bool → List ℕ → List ℕ → ℕ → Result (List ℕ × ℕ) PieceRefusal
rest_at behind_backslash text [] place = Err (Syntax place)
rest_at true text (byte ∷ rest) place =
    go (unescaped byte) (λ other. rest_at false (text ++ other ∷ []) rest (place + 1)) place where
      go : Option ℕ → (ℕ → Result (List ℕ × ℕ) PieceRefusal) → ℕ → Result (List ℕ × ℕ) PieceRefusal
      go None next at = Err (Syntax at)
      go (Some other) next at = next other
rest_at false text (byte ∷ rest) place =
    if byte == 34 then Ok (text, place + 1)
    else (if byte == 92 then rest_at true text rest (place + 1)
    else (if is_never_raw byte then Err (Syntax place)
    else rest_at false (text ++ byte ∷ []) rest (place + 1)))

-- a literal: the text that it stands for, and the place after it
abbrev pub literal_at : List ℕ → ℕ → Result (List ℕ × ℕ) PieceRefusal
literal_at input place = byte_at 34 input place >>= λ start. rest_at false [] (drop start input) start
