-- How the readers of words go on, step by step, and that they stay within the text.
use Rattle.std.proofs.Common.{inl, inr, eqb, ◌≡◌, ℕ, suc, ◌+◌, ◌≤◌, ◌<◌, ◌≢◌, Bool, cond, List, length, map, drop}
use Rattle.std.proofs.Common.{get_or, max, Result, Ok, Err, IfOk, sym, ap, ◌∙◌, arith}
use Rattle.std.specs.Prelude.{slice_get}
use Rattle.std.proofs.lemmas.Bool.{cases_Bool, eq-eqb, ne_eqb}
use Rattle.std.proofs.lemmas.List.{at_drop_more, at_drop_all}
use Rattle.words.specs.Reading.{◌>>=◌}
use Rattle.pieces.specs.declared.refusal.PieceRefusal.{PieceRefusal}
use Rattle.pieces.specs.declared.refusal.PieceRefusal.TheVariants.{Syntax}
use Rattle.pieces.specs.Refusal.{place_of}
use Rattle.pieces.specs.Word.{is_this, byte_at, word_at, or_else, one_of_from, spaces}
use Rattle.pieces.specs.WordLaws.{is_this_within}

-- a byte is read inside the text
pub byte_within : (byte : ℕ) (input : List ℕ) (place : ℕ) → IfOk (byte_at byte input place) (λ after. (place ≤ after) × (after ≤ length input))
byte_within byte input place =
    elim (cases_Bool (is_this byte (slice_get input place))) [
      | inl is ↦ let inside = is_this_within byte input place is in rw is (omega arith, omega arith)
      | inr is_not ↦ rw is_not tt
    ]

-- ---- the bytes of a word

-- one more byte of the word
pub word_on : (word input : List ℕ) (i at after : ℕ) (total : Result ℕ PieceRefusal) → i < length word → byte_at (get_or word i 0) input at ≡ Ok after → word_at (drop i word) input at ≡ total → word_at (drop (i + 1) word) input after ≡ total
unfolding word_at
word_on word input i at after total inside taken so_far =
    let step : word_at (drop i word) input at ≡ (byte_at (get_or word i 0) input at >>= λ after. word_at (drop (i + 1) word) input after) = at_drop_more (λ (rest : List ℕ). word_at rest input at) word i 0 inside in
    sym (step ∙ ap (λ (r : Result ℕ PieceRefusal). r >>= λ after. word_at (drop (i + 1) word) input after) taken) ∙ so_far

-- a byte that is not the word's
pub word_fail : (word input : List ℕ) (i at : ℕ) (refusal : PieceRefusal) (total : Result ℕ PieceRefusal) → i < length word → byte_at (get_or word i 0) input at ≡ Err refusal → word_at (drop i word) input at ≡ total → total ≡ Err refusal
unfolding word_at
word_fail word input i at refusal total inside refused so_far =
    let step : word_at (drop i word) input at ≡ (byte_at (get_or word i 0) input at >>= λ after. word_at (drop (i + 1) word) input after) = at_drop_more (λ (rest : List ℕ). word_at rest input at) word i 0 inside in
    sym so_far ∙ (step ∙ ap (λ (r : Result ℕ PieceRefusal). r >>= λ after. word_at (drop (i + 1) word) input after) refused)

-- no byte is left of the word
pub word_end : (word input : List ℕ) (i at : ℕ) (total : Result ℕ PieceRefusal) → length word ≤ i → word_at (drop i word) input at ≡ total → total ≡ Ok at
unfolding word_at
word_end word input i at total past so_far =
    let end : word_at (drop i word) input at ≡ Ok at = at_drop_all (λ (rest : List ℕ). word_at rest input at) word i past in
    sym so_far ∙ end

-- these steps
pub ruleset word_steps = (word_on, word_fail, word_end)

-- ---- one of several words

-- the next of the words
one_of_step : {X : Type 0} (view : X → List ℕ) (words : List X) (d : X) (input : List ℕ) (i place far : ℕ) → i < length words
    → one_of_from i (map view (drop i words)) input place far ≡ or_else (word_at (view (get_or words i d)) input place) i (λ further. one_of_from (i + 1) (map view (drop (i + 1) words)) input place further) far
unfolding one_of_from
one_of_step view words d input i place far inside = at_drop_more (λ (rest : List _). one_of_from i (map view rest) input place far) words i d inside

-- the word stands there
pub one_of_found : {X : Type 0} (view : X → List ℕ) (words : List X) (d : X) (input : List ℕ) (i place far after : ℕ) (total : Result (ℕ × ℕ) PieceRefusal) → i < length words
    → Ok after ≡ word_at (view (get_or words i d)) input place → one_of_from i (map view (drop i words)) input place far ≡ total → Ok (i, after) ≡ total
one_of_found view words d input i place far after total inside taken so_far =
    sym (one_of_step view words d input i place far inside ∙ ap (λ (r : Result ℕ PieceRefusal). or_else r i (λ further. one_of_from (i + 1) (map view (drop (i + 1) words)) input place further) far) (sym taken)) ∙ so_far

-- the word does not stand there
pub one_of_on : {X : Type 0} (view : X → List ℕ) (words : List X) (d : X) (input : List ℕ) (i place far further : ℕ) (refusal : PieceRefusal) (total : Result (ℕ × ℕ) PieceRefusal) → i < length words
    → Err refusal ≡ word_at (view (get_or words i d)) input place → further ≡ max far (place_of refusal) → one_of_from i (map view (drop i words)) input place far ≡ total → one_of_from (i + 1) (map view (drop (i + 1) words)) input place further ≡ total
one_of_on view words d input i place far further refusal total inside refused is so_far =
    let step : one_of_from i (map view (drop i words)) input place far ≡ one_of_from (i + 1) (map view (drop (i + 1) words)) input place (max far (place_of refusal)) =
    one_of_step view words d input i place far inside ∙ ap (λ (r : Result ℕ PieceRefusal). or_else r i (λ further. one_of_from (i + 1) (map view (drop (i + 1) words)) input place further) far) (sym refused) in
    ap (λ (further : ℕ). one_of_from (i + 1) (map view (drop (i + 1) words)) input place further) is ∙ (sym step ∙ so_far)

-- no word is left
pub one_of_end : {X : Type 0} (view : X → List ℕ) (words : List X) (input : List ℕ) (i place far : ℕ) (total : Result (ℕ × ℕ) PieceRefusal) → length words ≤ i → one_of_from i (map view (drop i words)) input place far ≡ total → Err (Syntax far) ≡ total
unfolding one_of_from
one_of_end view words input i place far total past so_far =
    let end : one_of_from i (map view (drop i words)) input place far ≡ Err (Syntax far) = at_drop_all (λ (rest : List _). one_of_from i (map view rest) input place far) words i past in
    sym end ∙ so_far

-- ---- spaces

-- one more space
pub spaces_on : (input : List ℕ) (at whole : ℕ) → at < length input → get_or input at 0 ≡ 32 → at + spaces (drop at input) ≡ whole → at + 1 + spaces (drop (at + 1) input) ≡ whole
unfolding spaces
spaces_on input at whole inside is so_far =
    let step : spaces (drop at input) ≡ cond (eqb (get_or input at 0) 32) (suc (spaces (drop (at + 1) input))) 0 = at_drop_more spaces input at 0 inside in
    let test : spaces (drop at input) ≡ suc (spaces (drop (at + 1) input)) = step ∙ ap (λ (b : Bool). cond b (suc (spaces (drop (at + 1) input))) 0) (eq-eqb _ _ is) in
    omega arith

-- a byte that is no space
pub spaces_stop : (input : List ℕ) (at : ℕ) → at < length input → get_or input at 0 ≢ 32 → spaces (drop at input) ≡ 0
unfolding spaces
spaces_stop input at inside is_not =
    let step : spaces (drop at input) ≡ cond (eqb (get_or input at 0) 32) (suc (spaces (drop (at + 1) input))) 0 = at_drop_more spaces input at 0 inside in
    step ∙ ap (λ (b : Bool). cond b (suc (spaces (drop (at + 1) input))) 0) (ne_eqb _ _ is_not)

-- the end
pub spaces_end : (input : List ℕ) (at : ℕ) → length input ≤ at → spaces (drop at input) ≡ 0
unfolding spaces
spaces_end input at past = at_drop_all spaces input at past

-- these steps
pub ruleset spaces_steps = (spaces_on, spaces_stop, spaces_end)
