-- Laws of the numbers that fit a kind.
use Rattle.std.specs.Prelude.{◌≡◌, ◌^◌, ◌-◌, ◌<◌, ◌≤◌, ℤ, pos, negsuc, true, false, not, nat_lt}
use Rattle.std.proofs.Common.{refl, arith}
use Rattle.std.proofs.lemmas.Bool.{and_parts, not-true, ltb-true, ltb-false, lt-ltb, le-ltb}
use Rattle.row_types.specs.declared.column.Kind.{Kind}
use Rattle.row_types.specs.declared.column.Kind.TheVariants as kinds
use Rattle.row_types.specs.Fits.{is_int, is_long, has_number}

-- a number of 32 bits has 64 bits
pub int_is_long : (number : ℤ) → is_int number ≡ true → is_long number ≡ true
int_is_long (pos n) h =
    let small : n < 2 ^ 31 = ltb-true n (2 ^ 31) h in
    lt-ltb n (2 ^ 63) (omega arith)
int_is_long (negsuc n) h =
    let parts = and_parts (not (nat_lt (2 ^ 31 - 1) n)) true h in
    let small : n ≤ 2 ^ 31 - 1 = ltb-false _ _ (not-true _ parts.0) in
    let within : nat_lt (2 ^ 63 - 1) n ≡ false = le-ltb _ _ (omega arith) in
    rw within refl

-- each number of a kind has 64 bits
pub number_is_long : (kind : Kind) (number : ℤ) → has_number kind number ≡ true → is_long number ≡ true
number_is_long kinds.Int number h = int_is_long number h
number_is_long kinds.Date number h = int_is_long number h
number_is_long kinds.Long number h = h
number_is_long kinds.Time number h = h
number_is_long kinds.Timestamp number h = h
number_is_long kinds.Timestamptz number h = h
number_is_long kinds.Boolean number h = cc
number_is_long kinds.Text number h = cc
number_is_long kinds.Bytes number h = cc
