-- Laws of bytes, words, gaps, marks and the end: what stands at a place is read there, whatever follows it.
use Rattle.std.specs.Prelude.{slice_get, slice_range}
use Rattle.std.proofs.Common.{inl, inr, ◌≡◌, ℕ, zero, suc, ◌+◌, ◌-◌, ◌<◌, ◌≤◌, ◌≢◌, ◌==◌, Bool, true, false, cond}
use Rattle.std.proofs.Common.{List, [], ◌∷◌, ◌++◌, length, get_or, take, drop, Some, Result, Ok, Err, refl, ap, ◌∙◌}
use Rattle.std.proofs.Common.{arith}
use Rattle.std.proofs.lemmas.Bool.{false≢true, cases_lt, cases_Bool, eq-eqb, eqb-true, ne_eqb}
use Rattle.std.proofs.lemmas.List.{take_more, get_or-drop, length-drop}
use Rattle.std.proofs.lemmas.Option.{slice_get-get_or, slice_get_past}
use Rattle.words.specs.Reading.{◌>>=◌}
use Rattle.words.specs.Parts.{behind_is}
use Rattle.pieces.specs.declared.refusal.PieceRefusal.{PieceRefusal}
use Rattle.pieces.specs.declared.refusal.PieceRefusal.TheVariants.{Syntax}
use Rattle.pieces.specs.Word.{is_this, byte_at, word_at, spaces, after_spaces, gap_at, mark_at, end_at}

-- ---- bytes of a text

-- the byte that begins the rest of a text from a place stands at that place
pub stands_first : (byte : ℕ) (input rest : List ℕ) (place : ℕ) → drop place input ≡ byte ∷ rest
    → slice_get input place ≡ Some byte
stands_first byte [] rest zero e = absurd cc
stands_first byte [] rest (suc place) e = absurd cc
stands_first byte (x ∷ xs) rest zero e = let is : x ≡ byte = cc in ap Some is
stands_first byte (x ∷ xs) rest (suc place) e = stands_first byte xs rest place e

-- no bytes are between a place and itself
pub range_none : (input : List ℕ) (at : ℕ) → slice_range input at at ≡ []
range_none input at = let none : at - at ≡ 0 = omega arith in rw none refl

-- the bytes up to a later place are one more
pub range_more : (input : List ℕ) (start at : ℕ) → start ≤ at → at < length input
    → slice_range input start (at + 1) ≡ slice_range input start at ++ get_or input at 0 ∷ []
range_more input start at before lt =
    let more : at + 1 - start ≡ at - start + 1 = omega arith in
    let here : start + (at - start) ≡ at = omega arith in
    ap (λ (n : ℕ). take n (drop start input)) more
    ∙ (take_more (drop start input) (at - start) 0 (omega (arith, length-drop start input))
    ∙ ap (λ (b : ℕ). slice_range input start at ++ b ∷ [])
    (get_or-drop start input (at - start) 0 ∙ ap (λ (n : ℕ). get_or input n 0) here))

-- the test for a byte succeeds where the byte stands
pub is_this_again : (byte : ℕ) (input rest : List ℕ) (place : ℕ) → drop place input ≡ byte ∷ rest
    → is_this byte (slice_get input place) ≡ true
is_this_again byte input rest place e = ap (is_this byte) (stands_first byte input rest place e) ∙ eq-eqb byte byte refl

-- the test for a byte fails where another byte stands
pub is_this_other : (byte other : ℕ) (input rest : List ℕ) (place : ℕ) → other ≢ byte
    → drop place input ≡ other ∷ rest → is_this byte (slice_get input place) ≡ false
is_this_other byte other input rest place ne e = ap (is_this byte) (stands_first other input rest place e)
    ∙ ne_eqb other byte ne

-- a place where the test succeeds is inside the text
pub is_this_within : (byte : ℕ) (input : List ℕ) (place : ℕ) → is_this byte (slice_get input place) ≡ true
    → place < length input
is_this_within byte [] place is = absurd (false≢true is)
is_this_within byte (x ∷ xs) zero is = omega arith
is_this_within byte (x ∷ xs) (suc place) is = let h : place < length xs = is_this_within byte xs place is in omega arith

-- a byte that is read stands inside the text, and the place after it is the next one
pub byte_stands : (byte : ℕ) (input : List ℕ) (place after : ℕ) → byte_at byte input place ≡ Ok after
    → (place < length input) × (get_or input place 0 ≡ byte) × (after ≡ place + 1)
byte_stands byte input place after taken =
    elim (cases_lt place (length input)) [
      | inr over ↦ let none = slice_get_past input place over in cc
      | inl lt ↦ elim (cases_Bool (get_or input place 0 == byte)) [
        | inl same ↦
            let read : byte_at byte input place ≡ Ok (place + 1) = rw (slice_get-get_or input place 0 lt, same) refl in
            (lt, eqb-true (get_or input place 0) byte same, cc)
        | inr other ↦
            let refused : byte_at byte input place ≡ Err (Syntax place) =
            rw (slice_get-get_or input place 0 lt, other) refl in
            cc
      ]
    ]

-- ---- bytes and words are read

-- a byte that is there is read
pub byte_again : (byte : ℕ) (input rest : List ℕ) (place : ℕ) → drop place input ≡ byte ∷ rest
    → byte_at byte input place ≡ Ok (place + 1)
byte_again byte input rest place e = rw (is_this_again byte input rest place e) refl

-- a word that is there is read
pub word_again : (word input rest : List ℕ) (place : ℕ) → drop place input ≡ word ++ rest
    → word_at word input place ≡ Ok (place + length word)
unfolding word_at
word_again [] input rest place e = let same : place ≡ place + 0 = omega arith in ap Ok same
word_again (byte ∷ word) input rest place e =
    let next : drop (place + 1) input ≡ word ++ rest = behind_is input place (byte ∷ []) (word ++ rest) e in
    let size : place + 1 + length word ≡ place + suc (length word) = omega arith in
    ap (λ (r : Result ℕ PieceRefusal). r >>= λ after. word_at word input after)
    (byte_again byte input (word ++ rest) place e)
    ∙ (word_again word input rest (place + 1) next ∙ ap Ok size)

-- ---- spaces, marks and the end

-- no space stands at the end
pub no_space_at_end : spaces [] ≡ 0
unfolding spaces
no_space_at_end = refl

-- no space stands where another byte does
pub no_space_first : (byte : ℕ) (rest : List ℕ) → byte ≢ 32 → spaces (byte ∷ rest) ≡ 0
unfolding spaces
no_space_first byte rest ne = ap (λ (b : Bool). cond b (suc (spaces rest)) 0) (ne_eqb byte 32 ne)

-- a single space is read as a gap
pub gap_again : (input rest : List ℕ) (place : ℕ) → drop place input ≡ 32 ∷ rest → spaces rest ≡ 0
    → gap_at input place ≡ Ok (place + 1)
unfolding spaces
gap_again input rest place e none =
    let one : spaces (drop place input) ≡ 1 = ap spaces e ∙ ap suc none in
    rw one refl

-- a mark with a space before and after it is read
pub mark_again : (byte : ℕ) (input rest : List ℕ) (place : ℕ) → drop place input ≡ 32 ∷ byte ∷ 32 ∷ rest → byte ≢ 32
    → spaces rest ≡ 0 → mark_at byte input place ≡ Ok (place + 3)
unfolding spaces
mark_again byte input rest place e ne none =
    let before : spaces (drop place input) ≡ 1 =
    ap spaces e ∙ ap (λ (b : Bool). suc (cond b (suc (suc (spaces rest))) 0)) (ne_eqb byte 32 ne) in
    let next : drop (place + 1) input ≡ byte ∷ 32 ∷ rest = behind_is input place (32 ∷ []) (byte ∷ 32 ∷ rest) e in
    let last : drop (place + 2) input ≡ 32 ∷ rest = behind_is input place (32 ∷ byte ∷ []) (32 ∷ rest) e in
    let after : spaces (drop (place + 2) input) ≡ 1 = ap spaces last ∙ ap suc none in
    let there : byte_at byte input (place + 1) ≡ Ok (place + 2) = let two : place + 1 + 1 ≡ place + 2 =
    omega arith in byte_again byte input (32 ∷ rest) (place + 1) next ∙ ap Ok two in
    let three : place + 2 + 1 ≡ place + 3 = omega arith in
    ap (λ (n : ℕ). byte_at byte input (place + n) >>= λ after. Ok (after_spaces input after)) before
    ∙ (ap (λ (r : Result ℕ PieceRefusal). r >>= λ after. Ok (after_spaces input after)) there
    ∙ (ap (λ (n : ℕ). Ok (place + 2 + n)) after ∙ ap Ok three))

-- the end is read if nothing is left
pub end_again : (input : List ℕ) (place : ℕ) → place ≡ length input → end_at input place ≡ Ok tt
end_again input place e = ap (λ (b : Bool). cond b (Ok tt) (Err (Syntax place))) (eq-eqb place (length input) e)
