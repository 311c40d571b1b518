-- Laws of one word out of several: the first one that is there is read.
use Rattle.std.specs.Prelude.{slice_get}
use Rattle.std.proofs.Common.{inl, inr, ◌&&◌, if◌then◌else◌, ◌≡◌, ℕ, zero, suc, ◌+◌, Bool, true, false, eqb, ◌==◌}
use Rattle.std.proofs.Common.{List, [], ◌∷◌, ◌++◌, length, take, drop, max, Some, Result, Ok, Err, IsErr, refl, sym}
use Rattle.std.proofs.Common.{ap, ◌∙◌, subst, arith}
use Rattle.std.proofs.lemmas.Bool.{false≢true, cases_Bool, eqb-true, and_parts}
use Rattle.words.specs.Reading.{◌>>=◌}
use Rattle.words.specs.Parts.{behind_is}
use Rattle.pieces.specs.declared.refusal.PieceRefusal.{PieceRefusal}
use Rattle.pieces.specs.declared.refusal.PieceRefusal.TheVariants.{Syntax}
use Rattle.pieces.specs.Refusal.{place_of}
use Rattle.pieces.specs.Word.{is_this, byte_at, word_at, or_else, one_of_from, one_of}
use Rattle.pieces.specs.WordLaws.{stands_first, byte_again, word_again}

-- none of the words is there
abbrev pub AllRefused : List ℕ → ℕ → List (List ℕ) → Type 0
AllRefused input place [] = Unit {0}
AllRefused input place (word ∷ words) = IsErr (word_at word input place) × AllRefused input place words

-- the first of the words that is there is read, if the list is counted from any index
first_from : (words : List (List ℕ)) (index k : ℕ) (word input : List ℕ) (place after far : ℕ)
    → slice_get words k ≡ Some word → AllRefused input place (take k words) → word_at word input place ≡ Ok after
    → one_of_from index words input place far ≡ Ok (index + k, after)
unfolding one_of_from
first_from [] index k word input place after far is refused taken = absurd cc
first_from (other ∷ words) index zero word input place after far is refused taken =
    let same : other ≡ word = cc in
    let zeroth : index ≡ index + 0 = omega arith in
    ap (λ (r : Result ℕ PieceRefusal). or_else r index (λ further. one_of_from (index + 1) words input place further)
    far) (ap (λ (w : List ℕ). word_at w input place) same ∙ taken)
    ∙ ap (λ (n : ℕ). Ok (n, after)) zeroth
first_from (other ∷ words) index (suc k) word input place after far is refused taken =
    go (word_at other input place) refused.0
    (λ further. first_from words (index + 1) k word input place after further is refused.1 taken)
  where
    go : (r : Result ℕ PieceRefusal) → IsErr r
        → ((further : ℕ) → one_of_from (index + 1) words input place further ≡ Ok (index + 1 + k, after))
        → or_else r index (λ further. one_of_from (index + 1) words input place further) far
        ≡ Ok (index + suc k, after)
    go (Ok x) err next = absurd (false≢true err)
    go (Err refusal) err next = let steps : index + 1 + k ≡ index + suc k =
        omega arith in next (max far (place_of refusal)) ∙ ap (λ (n : ℕ). Ok (n, after)) steps

-- the first of the words that is there is read
pub one_of_first : (words : List (List ℕ)) (k : ℕ) (word input : List ℕ) (place after : ℕ)
    → slice_get words k ≡ Some word → AllRefused input place (take k words) → word_at word input place ≡ Ok after
    → one_of words input place ≡ Ok (k, after)
one_of_first words k word input place after is refused taken =
    let none : 0 + k ≡ k = omega arith in
    first_from words 0 k word input place after place is refused taken ∙ ap (λ (n : ℕ). Ok (n, after)) none

-- two words differ at a place that both have
abbrev pub differ : List ℕ → List ℕ → Bool
differ [] other = false
differ (byte ∷ word) [] = false
differ (byte ∷ word) (first ∷ other) = if first == byte then differ word other else true

-- a word differs from each of the words
abbrev pub all_differ : List (List ℕ) → List ℕ → Bool
all_differ [] other = true
all_differ (word ∷ words) other = differ word other && all_differ words other

-- a word that differs from what is there is refused
pub differ_refused : (word other input rest : List ℕ) (place : ℕ) → differ word other ≡ true
    → drop place input ≡ other ++ rest → IsErr (word_at word input place)
unfolding word_at
differ_refused [] other input rest place d e = absurd (false≢true d)
differ_refused (byte ∷ word) [] input rest place d e = absurd (false≢true d)
differ_refused (byte ∷ word) (first ∷ other) input rest place d e =
    elim (cases_Bool (eqb first byte)) [
      | inl is ↦
          let same : first ≡ byte = eqb-true first byte is in
          let more : differ word other ≡ true = rw is at d in
          let next : drop (place + 1) input ≡ other ++ rest = behind_is input place (first ∷ []) (other ++ rest) e in
          let there : byte_at byte input place ≡ Ok (place + 1) =
          byte_again byte input (other ++ rest) place (e ∙ ap (λ (b : ℕ). b ∷ (other ++ rest)) same) in
          subst (λ (r : Result ℕ PieceRefusal). IsErr (r >>= λ after. word_at word input after)) (sym there)
          (differ_refused word other input rest (place + 1) more next)
      | inr is_not ↦
          let not_there : is_this byte (slice_get input place) ≡ false =
          ap (is_this byte) (stands_first first input (other ++ rest) place e) ∙ is_not in
          let there : byte_at byte input place ≡ Err (Syntax place) = rw not_there refl in
          subst (λ (r : Result ℕ PieceRefusal). IsErr (r >>= λ after. word_at word input after)) (sym there) refl
    ]

-- the words that differ from what is there are refused
all_refused : (words : List (List ℕ)) (word input rest : List ℕ) (place : ℕ) → all_differ words word ≡ true
    → drop place input ≡ word ++ rest → AllRefused input place words
all_refused [] word input rest place d e = tt
all_refused (other ∷ words) word input rest place d e =
    let parts = and_parts (differ other word) (all_differ words word) d in
    (differ_refused other word input rest place parts.0 e, all_refused words word input rest place parts.1 e)

-- a word of the list is read, if the words before it in the list differ from it
pub one_of_again : (words : List (List ℕ)) (k : ℕ) (word input rest : List ℕ) (place : ℕ)
    → slice_get words k ≡ Some word → all_differ (take k words) word ≡ true → drop place input ≡ word ++ rest
    → one_of words input place ≡ Ok (k, place + length word)
one_of_again words k word input rest place is d e =
    one_of_first words k word input place (place + length word) is
    (all_refused (take k words) word input rest place d e) (word_again word input rest place e)
