-- The reading of pairs of digits, one digit on.
use Rattle.std.proofs.Common.{◌≡◌, ℕ, ◌+◌, ◌*◌, ◌<◌, List, [], ◌∷◌, ◌++◌, length, get_or, drop, slice_get, Option}
use Rattle.std.proofs.Common.{Some, None, Ok, Err, inl, inr, refl, sym, ap, ◌∙◌, option_and_then}
use Rattle.std.proofs.lemmas.Bool.{cases_lt}
use Rattle.std.proofs.lemmas.List.{drop_more, drop_all}
use Rattle.std.proofs.lemmas.Option.{slice_get-get_or}
use Rattle.pieces.specs.declared.refusal.PieceRefusal.TheVariants.{Syntax}
use Rattle.pieces.specs.HexLiteral.{hex_digit, pairs_at}

-- what stands at a place that is inside
digit_inside : (text : List ℕ) (place : ℕ) (digit : Option ℕ) → place < length text → digit ≡ option_and_then hex_digit (slice_get text place) → hex_digit (get_or text place 0) ≡ digit
digit_inside text place digit lt is = sym (is ∙ ap (option_and_then hex_digit) (slice_get-get_or text place 0 lt))

-- no digit stands where a byte may begin
pub first_none : (bytes text : List ℕ) (place : ℕ) → None ≡ option_and_then hex_digit (slice_get text place) → pairs_at None bytes (drop place text) place ≡ Ok (bytes, place)
unfolding pairs_at
first_none bytes text place none =
    elim (cases_lt place (length text)) [
      | inl lt ↦ rw (drop_more text place 0 lt, digit_inside text place None lt none) refl
      | inr over ↦ rw (drop_all place text over) refl
    ]

-- a byte's first digit
pub first_some : (bytes text : List ℕ) (place high : ℕ) → place < length text → Some high ≡ option_and_then hex_digit (slice_get text place)
    → pairs_at None bytes (drop place text) place ≡ pairs_at (Some high) bytes (drop (place + 1) text) (place + 1)
unfolding pairs_at
first_some bytes text place high lt some = rw (drop_more text place 0 lt, digit_inside text place (Some high) lt some) refl

-- no second digit behind it
pub second_none : (bytes text : List ℕ) (place high : ℕ) → None ≡ option_and_then hex_digit (slice_get text place) → pairs_at (Some high) bytes (drop place text) place ≡ Err (Syntax place)
unfolding pairs_at
second_none bytes text place high none =
    elim (cases_lt place (length text)) [
      | inl lt ↦ rw (drop_more text place 0 lt, digit_inside text place None lt none) refl
      | inr over ↦ rw (drop_all place text over) refl
    ]

-- a byte's second digit
pub second_some : (bytes text : List ℕ) (place high low : ℕ) → place < length text → Some low ≡ option_and_then hex_digit (slice_get text place)
    → pairs_at (Some high) bytes (drop place text) place ≡ pairs_at None (bytes ++ (high * 16 + low) ∷ []) (drop (place + 1) text) (place + 1)
unfolding pairs_at
second_some bytes text place high low lt some = rw (drop_more text place 0 lt, digit_inside text place (Some low) lt some) refl
