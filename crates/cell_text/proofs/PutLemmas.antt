-- What was put so far: bytes that stand for themselves, many at a time, and digits of bytes.
use Rattle.std.proofs.Common.{◌≡◌, ℕ, zero, suc, ◌+◌, ◌-◌, ◌<◌, ◌≤◌, List, [], ◌∷◌, ◌++◌, length, get_or, take, drop, refl, sym, ap, ◌∙◌, subst, arith, append_assoc}
use Rattle.std.specs.Prelude.{slice_range}
use Rattle.std.specs.List.{flat_map}
use Rattle.std.proofs.lemmas.List.{length-take-le, length-drop, drop_more, drop_all, append-nil}
use Rattle.hex.specs.Hex.{encode_lower, encode_with}
use Rattle.pieces.specs.Literal.{escape}
use Rattle.pieces.specs.LiteralLaws.{IsRun, run_begins, run_goes_on}

-- ---- bytes that stand for themselves

-- the bytes from at on, so many, stand for themselves
abbrev pub ArePlain : List ℕ → ℕ → ℕ → Type 0
ArePlain text at n = (k : ℕ) → at ≤ k → k < at + n → escape (get_or text k 0) ≡ get_or text k 0 ∷ []

-- many bytes that stand for themselves make the run longer
run_goes_over : (text : List ℕ) (plain at n : ℕ) → IsRun text plain at → at + n ≤ length text → ArePlain text at n
    → IsRun text plain (at + n)
run_goes_over text plain at zero run le itself = subst (IsRun text plain) (omega arith) run
run_goes_over text plain at (suc n) run le itself =
    let here : IsRun text plain (at + n) =
    run_goes_over text plain at n run (omega arith) (λ k from to. itself k from (omega arith)) in
    let next = run_goes_on text plain (at + n) here (omega arith) (itself (at + n) (omega arith) (omega arith)) in
    subst (IsRun text plain) (omega arith) next

-- how long so many bytes are
pub length_of_range : (text : List ℕ) (at n : ℕ) → at + n ≤ length text → length (slice_range text at (at + n)) ≡ n
length_of_range text at n le =
    let inside : at + n - at ≤ length (drop at text) = omega (arith, length-drop at text) in
    let many : at + n - at ≡ n = omega arith in
    length-take-le (at + n - at) (drop at text) inside ∙ many

-- so many bytes that stand for themselves are put
pub many_put : (text : List ℕ) (at n : ℕ) (before now after : List ℕ) → at + n ≤ length text → ArePlain text at n
    → now ≡ before ++ flat_map escape (take at text) → after ≡ now ++ slice_range text at (at + n)
    → after ≡ before ++ flat_map escape (take (at + n) text)
many_put text at n before now after le plain now-is after-is =
    let run = run_goes_over text at at n (run_begins text at (omega arith)) le plain in
    rw (after-is, now-is, run.run)
    (append_assoc before (flat_map escape (take at text)) (slice_range text at (at + n)))

-- ---- digits of bytes

-- the digits of one byte more are put
pub digits_put : (bytes : List ℕ) (i : ℕ) (start before after piece : List ℕ) → i < length bytes
    → piece ≡ encode_lower (get_or bytes i 0 ∷ []) → before ++ encode_lower (drop i bytes) ≡ start ++ encode_lower bytes
    → after ≡ before ++ piece → after ++ encode_lower (drop (i + 1) bytes) ≡ start ++ encode_lower bytes
unfolding encode_with
digits_put bytes i start before after piece lt piece-is so_far after-is =
    let next : encode_lower (drop i bytes) ≡ piece ++ encode_lower (drop (i + 1) bytes) =
    rw (drop_more bytes i 0 lt, piece-is) refl in
    ap (λ (l : List ℕ). l ++ encode_lower (drop (i + 1) bytes)) after-is
    ∙ (append_assoc before piece (encode_lower (drop (i + 1) bytes))
    ∙ (ap (λ (l : List ℕ). before ++ l) (sym next) ∙ so_far))

-- the digits of all bytes are put
pub digits_whole : (bytes : List ℕ) (i : ℕ) (start now : List ℕ) → length bytes ≤ i
    → now ++ encode_lower (drop i bytes) ≡ start ++ encode_lower bytes → now ≡ start ++ encode_lower bytes
unfolding encode_with
digits_whole bytes i start now le so_far =
    let none : encode_lower (drop i bytes) ≡ [] = rw (drop_all i bytes le) refl in
    sym (append-nil now) ∙ (ap (λ (l : List ℕ). now ++ l) (sym none) ∙ so_far)
