-- What is read in hexadecimal is bytes.
use Rattle.std.proofs.Common.{◌≡◌, ℕ, ◌+◌, ◌-◌, ◌*◌, ◌<◌, true, List, [], ◌∷◌, ◌++◌, nat_lt, Option, Some, None, IfOk}
use Rattle.std.proofs.Common.{inl, inr, refl, ◌∙◌, arith, ◌&&◌}
use Rattle.std.proofs.lemmas.Bool.{cases_Bool, and_parts, and_from, lt-ltb, ltb-true}
use Rattle.std.proofs.lemmas.List.Folds.{list_all-append}
use Rattle.pieces.specs.HexLiteral.{hex_digit, pairs_at, are_bytes}

-- a digit stands for a number below 16
digit_small : (byte digit : ℕ) → hex_digit byte ≡ Some digit → digit < 16
digit_small byte digit e =
    elim (cases_Bool (nat_lt 47 byte && nat_lt byte 58)) [
      | inl decimal ↦
          let value : Some (byte - 48) ≡ Some digit = rw decimal at e in
          let same : byte - 48 ≡ digit = cc in
          let below : byte < 58 = ltb-true byte 58 (and_parts (nat_lt 47 byte) (nat_lt byte 58) decimal).1 in
          omega arith
      | inr other ↦ elim (cases_Bool (nat_lt 96 byte && nat_lt byte 103)) [
        | inl letter ↦
            let value : Some (byte - 87) ≡ Some digit = rw (other, letter) at e in
            let same : byte - 87 ≡ digit = cc in
            let below : byte < 103 = ltb-true byte 103 (and_parts (nat_lt 96 byte) (nat_lt byte 103) letter).1 in
            omega arith
        | inr neither ↦ let none : None ≡ Some digit = rw (other, neither) at e in absurd cc
      ]
    ]

-- two digits make a byte
pair_small : (bytes : List ℕ) (high low : ℕ) → high < 16 → low < 16 → are_bytes bytes ≡ true
    → are_bytes (bytes ++ (high * 16 + low) ∷ []) ≡ true
pair_small bytes high low small smaller all =
    let one : nat_lt (high * 16 + low) 256 ≡ true = lt-ltb _ _ (omega arith) in
    list_all-append (λ byte. nat_lt byte 256) bytes ((high * 16 + low) ∷ [])
    ∙ and_from _ _ all (and_from _ true one refl)

-- the first digit of a byte, if it was read
abbrev pub IsHigh : Option ℕ → Type 0
IsHigh None = Unit {0}
IsHigh (Some high) = high < 16

-- pairs of digits after bytes make bytes
pub pairs_fit : (high : Option ℕ) (bytes rest : List ℕ) (place : ℕ) → IsHigh high → are_bytes bytes ≡ true
    → IfOk (pairs_at high bytes rest place) (λ read. are_bytes read.0 ≡ true)
unfolding pairs_at
pairs_fit None bytes [] place small all = all
pairs_fit (Some high) bytes [] place small all = tt
pairs_fit None bytes (byte ∷ rest) place small all =
    go (hex_digit byte) refl (λ high is. pairs_fit (Some high) bytes rest (place + 1) (digit_small byte high is) all)
  where
    go : (digit : Option ℕ) → hex_digit byte ≡ digit
        → ((high : ℕ) → hex_digit byte ≡ Some high → IfOk (pairs_at (Some high) bytes rest (place + 1))
        (λ read. are_bytes read.0 ≡ true))
        → IfOk (pairs_at None bytes (byte ∷ rest) place) (λ read. are_bytes read.0 ≡ true)
    go None is next = rw is all
    go (Some high) is next = rw is (next high is)
pairs_fit (Some high) bytes (byte ∷ rest) place small all =
    go (hex_digit byte) refl
    (λ low is. pairs_fit None (bytes ++ (high * 16 + low) ∷ []) rest (place + 1) tt
    (pair_small bytes high low small (digit_small byte low is) all))
  where
    go : (digit : Option ℕ) → hex_digit byte ≡ digit → ((low : ℕ) → hex_digit byte ≡ Some low
        → IfOk (pairs_at None (bytes ++ (high * 16 + low) ∷ []) rest (place + 1))
        (λ read. are_bytes read.0 ≡ true))
        → IfOk (pairs_at (Some high) bytes (byte ∷ rest) place) (λ read. are_bytes read.0 ≡ true)
    go None is next = rw is tt
    go (Some low) is next = rw is (next low is)
