-- Whole numbers as values, and values as whole numbers.
use Rattle.std.proofs.Common.{◌≡◌, ℤ, pos, negsuc, int_lt, Bool, true, false, if◌then◌else◌, Option, Some, None}
use Rattle.std.proofs.Common.{is_some, option_and_then, unwrap_or, refl, sym, ap, ◌∙◌}
use Rattle.serde_json.specs.Data.{Data, number}
use Rattle.serde_json.specs.Find.{as_number, as_i64, of_integer}
use Rattle.json_members.specs.Form.{is_long, if_long, long_of, if_natural, natural_of, if_int, int_of}

kept : (z : ℤ) → is_long z ≡ true → if_long z ≡ Some z
kept z h = ap (λ (b : Bool). if b then Some z else None) h

-- a whole number of 64 bits, written as a value, is read as that number
pub long_again : (z : ℤ) → is_long z ≡ true → long_of (number (of_integer z)) ≡ Some z
long_again (pos n) h = ap (λ (b : Bool). option_and_then if_long (if b then Some (pos n) else None)) h ∙ kept (pos n) h
long_again (negsuc n) h = refl

-- so is one that is not below 0
pub natural_again : (z : ℤ) → is_long z ≡ true → int_lt z (pos 0) ≡ false → natural_of (number (of_integer z)) ≡ Some z
natural_again z h least =
    ap (option_and_then if_natural) (long_again z h) ∙ ap (λ (b : Bool). if b then None else Some z) least

-- and one of 32 bits
pub int_again : (z : ℤ) → is_long z ≡ true → if_int z ≡ Some z → int_of (number (of_integer z)) ≡ Some z
int_again z long int = ap (option_and_then if_int) (long_again z long) ∙ int

if_long_is : (o : Option ℤ) (z : ℤ) → option_and_then if_long o ≡ Some z → is_long z ≡ true
if_long_is None z is = absurd cc
if_long_is (Some y) z is = by_test (is_long y) refl is
  where
    by_test : (b : Bool) → is_long y ≡ b → (if b then Some y else None) ≡ Some z → is_long z ≡ true
    by_test true fits same = let e : y ≡ z = cc in ap is_long (sym e) ∙ fits
    by_test false fits same = absurd cc

-- a number that is read has 64 bits
pub long_is : (value : Data) (z : ℤ) → long_of value ≡ Some z → is_long z ≡ true
long_is value z is = if_long_is (option_and_then as_i64 (as_number value)) z is

-- a natural number that is read is not below 0
pub natural_is : (o : Option ℤ) → is_some (option_and_then if_natural o) ≡ true → int_lt (unwrap_or o (pos 0))
    (pos 0) ≡ false
natural_is None is = refl
natural_is (Some z) is = by_test (int_lt z (pos 0)) refl is
  where
    by_test : (b : Bool) → int_lt z (pos 0) ≡ b → is_some (if b then None else Some z) ≡ true → int_lt z (pos 0) ≡ false
    by_test true below some = absurd cc
    by_test false below some = below

-- the number that is read, or 0 if there is none, has 64 bits
pub long_or_zero : (value : Data) → is_long (unwrap_or (long_of value) (pos 0)) ≡ true
long_or_zero value = by_option (option_and_then as_i64 (as_number value))
  where
    by_option : (o : Option ℤ) → is_long (unwrap_or (option_and_then if_long o) (pos 0)) ≡ true
    by_option None = refl
    by_option (Some y) = by_test (is_long y) refl
      where
        by_test : (b : Bool) → is_long y ≡ b → is_long (unwrap_or (if b then Some y else None) (pos 0)) ≡ true
        by_test true fits = fits
        by_test false fits = refl
