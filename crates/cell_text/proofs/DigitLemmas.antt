-- How many digits a number has.
use Rattle.std.proofs.Common.{◌≡◌, ℕ, ◌+◌, ◌/◌, ◌^◌, ◌<◌, ◌≤◌, length, ap, ◌∙◌, arith}
use Rattle.std.specs.Fmt.{decimal}
use Rattle.std.proofs.lemmas.Fmt.{length-decimal-le}
use Rattle.itoa.proofs.Decimal.{length_two, length_step_wide, length_pair}

-- ---- digits of small numbers

pub three_digits : (n : ℕ) → 100 ≤ n → n < 1000 → length (decimal n) ≡ 3
three_digits n from below =
    length_step_wide n (omega arith) (omega arith) ∙ ap (λ (k : ℕ). k + 1) (length_two (n / 10) (omega arith) (omega arith))

pub four_digits : (n : ℕ) → 1000 ≤ n → n < 10000 → length (decimal n) ≡ 4
four_digits n from below =
    length_pair n (omega arith) (omega arith) ∙ ap (λ (k : ℕ). k + 2) (length_two (n / 100) (omega arith) (omega arith))

-- ---- how many digits a number has at most

pub few_digits : (n : ℕ) → n < 2 ^ 64 → length (decimal n) ≤ 20
few_digits n below = length-decimal-le 20 n (omega arith) (omega (arith, below)) below

-- beside a sign
pub fewer_digits : (n : ℕ) → n ≤ 2 ^ 63 → length (decimal n) ≤ 19
fewer_digits n below = length-decimal-le 19 n (omega arith) (omega (arith, below)) (omega (arith, below))
