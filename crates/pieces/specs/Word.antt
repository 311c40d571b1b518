-- Single bytes, words, spaces and the end, each as a reader from a place: the place after it, or the place of
-- the first byte that is not part of it.
use Rattle.std.specs.Prelude.{ℕ, suc, ◌+◌, ◌==◌, Bool, false, List, [], ◌∷◌, length, drop, slice_get, Option, Some}
use Rattle.std.specs.Prelude.{None, Result, Ok, Err, if◌then◌else◌, max}
use Rattle.words.specs.Reading.{◌>>=◌}
use Rattle.pieces.specs.declared.refusal.PieceRefusal.{PieceRefusal}
use Rattle.pieces.specs.declared.refusal.PieceRefusal.TheVariants.{Syntax}
use Rattle.pieces.specs.Refusal.{place_of}

-- this byte is there
abbrev pub is_this : ℕ → Option ℕ → Bool
is_this byte None = false
is_this byte (Some other) = other == byte

-- the byte
abbrev pub byte_at : ℕ → List ℕ → ℕ → Result ℕ PieceRefusal
byte_at byte input place = if is_this byte (slice_get input place) then Ok (place + 1) else Err (Syntax place)

-- the bytes of a word, in order
unfoldable pub word_at : List ℕ → List ℕ → ℕ → Result ℕ PieceRefusal
word_at [] input place = Ok place
word_at (byte ∷ word) input place = byte_at byte input place >>= λ after. word_at word input after

-- one word or the next ones; far is how far the words before it went
abbrev pub or_else : Result ℕ PieceRefusal → ℕ → (ℕ → Result (ℕ × ℕ) PieceRefusal) → ℕ → Result (ℕ × ℕ) PieceRefusal
or_else (Ok after) index next far = Ok (index, after)
or_else (Err refusal) index next far = next (max far (place_of refusal))

-- the first of the words that is there, by its place in the list, and the place after it;
-- else how far some word went
unfoldable pub one_of_from : ℕ → List (List ℕ) → List ℕ → ℕ → ℕ → Result (ℕ × ℕ) PieceRefusal
one_of_from index [] input place far = Err (Syntax far)
one_of_from index (word ∷ words) input place far =
    or_else (word_at word input place) index (λ further. one_of_from (index + 1) words input place further) far

abbrev pub one_of : List (List ℕ) → List ℕ → ℕ → Result (ℕ × ℕ) PieceRefusal
one_of words input place = one_of_from 0 words input place place

-- with how many spaces the bytes begin
unfoldable pub spaces : List ℕ → ℕ
spaces [] = 0
spaces (byte ∷ rest) = if byte == 32 then suc (spaces rest) else 0

-- the place after all spaces that are there
abbrev pub after_spaces : List ℕ → ℕ → ℕ
after_spaces input place = place + spaces (drop place input)

-- a gap between pieces: all spaces that are there, at least one
abbrev pub gap_at : List ℕ → ℕ → Result ℕ PieceRefusal
gap_at input place = if spaces (drop place input) == 0 then Err (Syntax place) else Ok (after_spaces input place)

-- a mark between pieces: the byte, with or without spaces round it
abbrev pub mark_at : ℕ → List ℕ → ℕ → Result ℕ PieceRefusal
mark_at byte input place = byte_at byte input (after_spaces input place) >>= λ after. Ok (after_spaces input after)

-- nothing is left
abbrev pub end_at : List ℕ → ℕ → Result (Unit {0}) PieceRefusal
end_at input place = if place == length input then Ok tt else Err (Syntax place)
