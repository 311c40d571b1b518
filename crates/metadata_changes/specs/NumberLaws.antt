-- The larger of two numbers is not below either.
use Rattle.std.proofs.Common.{◌≡◌, ℤ, int_lt, Bool, true, false, if◌then◌else◌, refl, arith}
use Rattle.std.proofs.lemmas.Int.{ints}
use Rattle.std.specs.Prelude.{◌≤ℤ◌}
use Rattle.json_members.specs.Form.{is_long}
use Rattle.metadata_changes.specs.Numbers.{larger}

-- the first one is not above the larger one
pub first_below : (a b : ℤ) → a ≤ℤ larger a b
first_below a b = by_test (int_lt a b) refl
  where
    by_test : (less : Bool) → int_lt a b ≡ less → a ≤ℤ (if less then b else a)
    by_test true is = grind (arith, ints)
    by_test false is = grind (arith, ints)

-- nor is the second one
pub second_below : (a b : ℤ) → b ≤ℤ larger a b
second_below a b = by_test (int_lt a b) refl
  where
    by_test : (less : Bool) → int_lt a b ≡ less → b ≤ℤ (if less then b else a)
    by_test true is = grind (arith, ints)
    by_test false is = grind (arith, ints)

-- the larger of two numbers of 64 bits has 64 bits
pub larger_long : (a b : ℤ) → is_long a ≡ true → is_long b ≡ true → is_long (larger a b) ≡ true
larger_long a b first second = by_test (int_lt a b)
  where
    by_test : (less : Bool) → is_long (if less then b else a) ≡ true
    by_test true = second
    by_test false = first
