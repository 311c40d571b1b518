-- Laws of texts between quotes: a printed text is read, and it is printed run by run.
use Rattle.std.specs.Prelude.{slice_range}
use Rattle.std.specs.List.{flat_map}
use Rattle.std.proofs.Common.{◌≡◌, ℕ, ◌+◌, ◌<◌, ◌≤◌, List, [], ◌∷◌, ◌++◌, length, get_or, take, drop, Ok, refl, sym}
use Rattle.std.proofs.Common.{ap, ◌∙◌, arith, append_assoc}
use Rattle.std.proofs.lemmas.List.{append-nil, length-append, take_more}
use Rattle.std.proofs.lemmas.Grind.{flat_map-append}
use Rattle.words.specs.Parts.{behind_is}
use Rattle.pieces.specs.Literal.{escape, literal_text, literal_at}
use Rattle.pieces.specs.WordLaws.{byte_again, range_none, range_more}
use Rattle.pieces.specs.LiteralTexts.{rest_again}

-- a printed text is read, up to the place after it
pub literal_again : (text input rest : List ℕ) (place : ℕ) → drop place input ≡ literal_text text ++ rest
    → literal_at input place ≡ Ok (text, place + length (literal_text text))
literal_again text input rest place front =
    let body = flat_map escape text in
    let split : drop place input ≡ 34 ∷ (body ++ 34 ∷ rest) =
    front ∙ ap (λ (l : List ℕ). 34 ∷ l) (append_assoc body (34 ∷ []) rest) in
    let size : place + 1 + length body + 1 ≡ place + length (literal_text text) =
    omega (arith, length-append body (34 ∷ [])) in
    rw (
      byte_again 34 input (body ++ 34 ∷ rest) place split,
      behind_is input place (34 ∷ []) (body ++ 34 ∷ rest) split,
      rest_again text [] rest (place + 1),
      size,
    ) refl

-- ---- runs of bytes that stand for themselves

-- the bytes from `plain` up to `at` stand for themselves as they are printed
pub record IsRun (text : List ℕ) (plain at : ℕ) : Type 0 where
  pub before : plain ≤ at
  pub within : at ≤ length text
  pub run : flat_map escape (take at text) ≡ flat_map escape (take plain text) ++ slice_range text plain at

-- a run that begins here has no byte yet
pub run_begins : (text : List ℕ) (at : ℕ) → at ≤ length text → IsRun text at at
run_begins text at within =
    record {
      before = omega arith;
      within = within;
      run = sym (append-nil (flat_map escape (take at text)))
          ∙ ap (λ (l : List ℕ). flat_map escape (take at text) ++ l) (sym (range_none text at));
    }

-- one byte more
one_more : (text : List ℕ) (at : ℕ) → at < length text
    → flat_map escape (take (at + 1) text) ≡ flat_map escape (take at text) ++ escape (get_or text at 0)
one_more text at lt =
    ap (flat_map escape) (take_more text at 0 lt)
    ∙ (flat_map-append escape (take at text) (get_or text at 0 ∷ [])
    ∙ ap (λ (l : List ℕ). flat_map escape (take at text) ++ l) (append-nil (escape (get_or text at 0))))

-- a byte that stands for itself makes the run longer
pub run_goes_on : (text : List ℕ) (plain at : ℕ) → IsRun text plain at → at < length text
    → escape (get_or text at 0) ≡ get_or text at 0 ∷ [] → IsRun text plain (at + 1)
run_goes_on text plain at run lt itself = record {
  before = omega (arith, run.before);
  within = omega arith;
  run = one_more text at lt
      ∙ (ap (λ (l : List ℕ). l ++ escape (get_or text at 0)) run.run
      ∙ (ap (λ (l : List ℕ). (flat_map escape (take plain text) ++ slice_range text plain at) ++ l) itself
      ∙ (append_assoc (flat_map escape (take plain text)) (slice_range text plain at) (get_or text at 0 ∷ [])
      ∙ ap (λ (l : List ℕ). flat_map escape (take plain text) ++ l) (sym (range_more text plain at run.before lt)))));
}

-- the text up to a byte that is escaped is the run before it, and the escape
pub run_ends : (text : List ℕ) (plain at : ℕ) (escaped : List ℕ) → IsRun text plain at → at < length text
    → escape (get_or text at 0) ≡ escaped
    → (flat_map escape (take plain text) ++ slice_range text plain at) ++ escaped ≡ flat_map escape (take (at + 1) text)
run_ends text plain at escaped run lt is =
    sym (one_more text at lt
    ∙ (ap (λ (l : List ℕ). flat_map escape (take at text) ++ l) is ∙ ap (λ (l : List ℕ). l ++ escaped) run.run))
