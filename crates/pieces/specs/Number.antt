-- Numbers in decimal: 0, or digits of which the first is not 0, perhaps with a minus sign before them.
use Rattle.std.specs.Prelude.{ℕ, zero, suc, ◌+◌, ◌-◌, ◌*◌, ◌^◌, ℤ, pos, negsuc, Bool, true, false, ◌&&◌, List, []}
use Rattle.std.specs.Prelude.{◌∷◌, drop, slice_get, Option, Some, None, Result, Ok, Err, nat_lt, if◌then◌else◌, codes}
use Rattle.std.specs.Fmt.{signed_decimal}
use Rattle.words.specs.Reading.{◌>>=◌, map_value}
use Rattle.pieces.specs.declared.refusal.PieceRefusal.{PieceRefusal}
use Rattle.pieces.specs.declared.refusal.PieceRefusal.TheVariants.{Syntax}
use Rattle.pieces.specs.declared.number.Digits.{Digits}
use Rattle.pieces.specs.declared.number.Digits.TheVariants.{Within, Over}
use Rattle.pieces.specs.declared.number.Passed.{Passed}
use Rattle.pieces.specs.Word.{is_this}

-- the byte is a digit
abbrev pub is_digit : ℕ → Bool
is_digit byte = nat_lt 47 byte && nat_lt byte 58

-- with how many digits the bytes begin
unfoldable pub digits : List ℕ → ℕ
digits [] = 0
digits (byte ∷ rest) = if is_digit byte then suc (digits rest) else 0

-- the number that the digits go on to from a value, with the place after them; or the number before the digit
-- that brings it above the most, the place of that digit, and the place after the last digit
unfoldable pub digits_from : ℕ → ℕ → List ℕ → ℕ → Digits
digits_from most value [] place = Within value place
digits_from most value (byte ∷ rest) place =
    if is_digit byte
    then (if nat_lt most (value * 10 + (byte - 48)) then Over value place (place + 1 + digits rest)
    else digits_from most (value * 10 + (byte - 48)) rest (place + 1))
    else Within value place

-- a digit other than 0 is there
abbrev pub begins : Option ℕ → Bool
begins None = false
begins (Some byte) = nat_lt 48 byte && nat_lt byte 58

-- a number from 1 to the most
abbrev pub positive_at : ℕ → List ℕ → ℕ → Result Digits PieceRefusal
positive_at most input place =
    if begins (slice_get input place) then Ok (digits_from most 0 (drop place input) place) else Err (Syntax place)

-- a number from 0 to the most
abbrev pub natural_at : ℕ → List ℕ → ℕ → Result Digits PieceRefusal
natural_at most input place =
    if is_this 48 (slice_get input place) then Ok (Within 0 (place + 1)) else positive_at most input place

-- what digits make, or those before the one that passes the most
abbrev pub value_of : Digits → ℕ
value_of (Within value after) = value
value_of (Over value place after) = value

-- a number of 64 bits with its sign, and the place after it; or one past 64 bits
abbrev pub Signed : Type 0
Signed = Result (ℤ × ℕ) Passed

-- the place after a number of any size
abbrev pub after_of : Signed → ℕ
after_of (Ok read) = read.1
after_of (Err passed) = passed.after

-- what digits make, with its sign
abbrev pub signed_as : (ℕ → ℤ) → Digits → Signed
signed_as sign (Within value after) = Ok (sign value, after)
signed_as sign (Over value place after) = Err (record { front = sign value; place = place; after = after })

-- the number so far below 0
abbrev pub negative : ℕ → ℤ
negative zero = pos 0
negative (suc n) = negsuc n

-- a number of any size with its sign, of which those of 64 bits are told
abbrev pub signed_at : List ℕ → ℕ → Result Signed PieceRefusal
signed_at input place =
    if is_this 45 (slice_get input place)
    then map_value (signed_as negative) (positive_at (2 ^ 63) input (place + 1))
    else map_value (signed_as pos) (natural_at (2 ^ 63 - 1) input place)

-- ---- what is read

-- digits that are no more than the most: else no number goes on with the digit that passes it
abbrev pub no_more : Digits → Result (ℕ × ℕ) PieceRefusal
no_more (Within value after) = Ok (value, after)
no_more (Over value place after) = Err (Syntax place)

-- a number of 64 bits without sign
abbrev pub unsigned_at : List ℕ → ℕ → Result (ℕ × ℕ) PieceRefusal
unsigned_at input place = natural_at (2 ^ 64 - 1) input place >>= no_more

-- a number from 1 to the largest of 64 bits with a sign
abbrev pub count_at : List ℕ → ℕ → Result (ℤ × ℕ) PieceRefusal
count_at input place = map_value (λ read. (pos read.0, read.1)) (positive_at (2 ^ 63 - 1) input place >>= no_more)

-- a number of 64 bits; past them it is wrong at the digit that passes them
abbrev pub of_64_bits : Signed → Result (ℤ × ℕ) PieceRefusal
of_64_bits (Ok read) = Ok read
of_64_bits (Err passed) = Err (Syntax passed.place)

-- a number of 64 bits with a sign
abbrev pub long_at : List ℕ → ℕ → Result (ℤ × ℕ) PieceRefusal
long_at input place = signed_at input place >>= of_64_bits

abbrev pub or_none : Signed → Option ℤ × ℕ
or_none (Ok read) = (Some read.0, read.1)
or_none (Err passed) = (None, passed.after)

-- a number of any size; None if it is not of 64 bits
abbrev pub any_number_at : List ℕ → ℕ → Result (Option ℤ × ℕ) PieceRefusal
any_number_at input place = map_value or_none (signed_at input place)

-- a minus sign that is no number's: what stands for an absent number
abbrev pub is_absent : List ℕ → ℕ → Bool
is_absent input place =
    if is_this 45 (slice_get input place) then (if begins (slice_get input (place + 1)) then false else true)
    else false

-- a number of 64 bits with a sign, or a minus sign alone for an absent one
abbrev pub optional_long_at : List ℕ → ℕ → Result (Option ℤ × ℕ) PieceRefusal
optional_long_at input place =
    if is_absent input place then Ok (None, place + 1)
    else map_value (λ read. (Some read.0, read.1)) (long_at input place)

-- ---- how numbers are printed

-- a number, or a minus sign for an absent one
abbrev pub optional_text : Option ℤ → List ℕ
optional_text None = codes "-"
optional_text (Some number) = signed_decimal number
