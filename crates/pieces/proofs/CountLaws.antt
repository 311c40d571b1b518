-- What is read as a count is at least 1.
use Rattle.std.proofs.Common.{◌≡◌, ℕ, zero, suc, ◌+◌, ◌-◌, ◌*◌, ◌^◌, ◌≤◌, ◌<◌, ℤ, pos, ◌≤ℤ◌, true, List, [], ◌∷◌}
use Rattle.std.proofs.Common.{drop, Some, Result, inl, inr, refl, arith}
use Rattle.std.specs.Prelude.{slice_get, nat_lt, IfOk}
use Rattle.std.proofs.lemmas.Bool.{cases_Bool, and_parts, and_from, lt-ltb, ltb-true, false≢true}
use Rattle.std.proofs.lemmas.Int.{ints}
use Rattle.words.specs.Reading.{map_value}
use Rattle.pieces.specs.declared.refusal.PieceRefusal.{PieceRefusal}
use Rattle.pieces.specs.declared.number.Digits.{Digits}
use Rattle.pieces.specs.declared.number.Digits.TheVariants.{Within, Over}
use Rattle.pieces.specs.Number.{is_digit, digits, digits_from, begins, no_more, count_at}

-- digits make no smaller number
digits_grow : (most value : ℕ) (bytes : List ℕ) (place number after : ℕ) → digits_from most value bytes place ≡ Within number after → value ≤ number
unfolding digits_from
digits_grow most value [] place number after e = let same : value ≡ number = cc in omega arith
digits_grow most value (byte ∷ rest) place number after e =
    elim (cases_Bool (is_digit byte)) [
      | inl is ↦ elim (cases_Bool (nat_lt most (value * 10 + (byte - 48)))) [
        | inl over ↦ let none : Over value place (place + 1 + digits rest) ≡ Within number after = rw (is, over) at e in absurd cc
        | inr within ↦
            let next : digits_from most (value * 10 + (byte - 48)) rest (place + 1) ≡ Within number after = rw (is, within) at e in
            let more = digits_grow most (value * 10 + (byte - 48)) rest (place + 1) number after next in
            omega arith
      ]
      | inr is_not ↦
          let end : Within value place ≡ Within number after = rw is_not at e in
          let same : value ≡ number = cc in
          omega arith
    ]

-- digits of which the first is not 0 make a number from 1
from_first : (most first : ℕ) (rest : List ℕ) (place number after : ℕ) → begins (Some first) ≡ true → digits_from most 0 (first ∷ rest) place ≡ Within number after → 1 ≤ number
unfolding digits_from
from_first most first rest place number after there e =
    let parts = and_parts (nat_lt 48 first) (nat_lt first 58) there in
    let above : 48 < first = ltb-true 48 first parts.0 in
    let is : is_digit first ≡ true = and_from _ _ (lt-ltb 47 first (omega arith)) parts.1 in
    elim (cases_Bool (nat_lt most (0 * 10 + (first - 48)))) [
      | inl over ↦ let none : Over 0 place (place + 1 + digits rest) ≡ Within number after = rw (is, over) at e in absurd cc
      | inr within ↦
          let next : digits_from most (0 * 10 + (first - 48)) rest (place + 1) ≡ Within number after = rw (is, within) at e in
          let more = digits_grow most (0 * 10 + (first - 48)) rest (place + 1) number after next in
          omega arith
    ]

-- so do those at a place
from_there : (most : ℕ) (input : List ℕ) (at place number after : ℕ) → begins (slice_get input at) ≡ true → digits_from most 0 (drop at input) place ≡ Within number after → 1 ≤ number
from_there most [] at place number after there e = absurd (false≢true there)
from_there most (byte ∷ rest) zero place number after there e = from_first most byte rest place number after there e
from_there most (byte ∷ rest) (suc at) place number after there e = from_there most rest at place number after there e

-- a number of them is at least 1
some_of : (made : Digits) → ((number after : ℕ) → made ≡ Within number after → 1 ≤ number) → IfOk (map_value (λ read. (pos read.0, read.1)) (no_more made)) (λ (read : ℤ × ℕ). pos 1 ≤ℤ read.0)
some_of (Within number after) h = let some : 1 ≤ number = h number after refl in omega (arith, ints)
some_of (Over value stop after) h = tt

-- a count is at least 1
pub count_some : (input : List ℕ) (place : ℕ) → IfOk (count_at input place) (λ read. pos 1 ≤ℤ read.0)
count_some input place =
    elim (cases_Bool (begins (slice_get input place))) [
      | inl there ↦ rw there (some_of (digits_from (2 ^ 63 - 1) 0 (drop place input) place) (λ number after e. from_there (2 ^ 63 - 1) input place place number after there e))
      | inr other ↦ rw other tt
    ]

-- so is what was read as one
pub read_some : (input : List ℕ) (place : ℕ) (result : Result (ℤ × ℕ) PieceRefusal) → result ≡ count_at input place → IfOk result (λ read. pos 1 ≤ℤ read.0)
read_some input place result is = rw is (count_some input place)
