-- Laws of numbers: a printed number is read where it stands, if no digit follows it.
use Rattle.std.specs.Prelude.{slice_get}
use Rattle.std.specs.Fmt.{decimal, signed_decimal}
use Rattle.std.proofs.Common.{◌≡◌, ◌≢◌, ℕ, suc, ◌+◌, ◌-◌, ◌^◌, ◌<◌, ℤ, pos, negsuc, ◌≤ℤ◌, Bool, true, false, cond}
use Rattle.std.proofs.Common.{List, [], ◌∷◌, ◌++◌, length, drop, Option, Some, None, Result, Ok, refl, ap, ◌∙◌, arith}
use Rattle.std.proofs.lemmas.Int.{ints}
use Rattle.std.proofs.lemmas.Fmt.{digits_decimal, decimal_nonempty, first_decimal}
use Rattle.words.specs.Reading.{◌>>=◌, map_value}
use Rattle.words.specs.Parts.{behind_is}
use Rattle.pieces.specs.declared.refusal.PieceRefusal.{PieceRefusal}
use Rattle.pieces.specs.declared.number.Digits.{Digits}
use Rattle.pieces.specs.Word.{is_this, spaces}
use Rattle.pieces.specs.Number.{is_digit, digits, negative, Signed, signed_as, signed_at, no_more, unsigned_at}
use Rattle.pieces.specs.Number.{count_at, of_64_bits, long_at, or_none, any_number_at, is_absent, optional_long_at}
use Rattle.pieces.specs.Number.{optional_text}
use Rattle.pieces.specs.Decimal.{all_digits, is_long, is_long_or_none}
use Rattle.pieces.specs.WordLaws.{is_this_again, no_space_first}
use Rattle.pieces.specs.NumberTexts.{own, no_minus, positive_again, natural_again, above_is, below_is, begins_none}
use Rattle.pieces.specs.NumberTexts.{begins_text, absent_again, text_no_space}

-- ---- digits

-- a number is printed in digits
pub decimal_digits : (number : ℕ) → number < 2 ^ 64 → all_digits (decimal number) ≡ true
decimal_digits number fits = digits_decimal own number fits

-- no digit stands at the end
pub no_digit_at_end : digits [] ≡ 0
unfolding digits
no_digit_at_end = refl

-- no digit stands where another byte does
pub no_digit_first : (byte : ℕ) (rest : List ℕ) → is_digit byte ≡ false → digits (byte ∷ rest) ≡ 0
unfolding digits
no_digit_first byte rest is_not = ap (λ (b : Bool). cond b (suc (digits rest)) 0) is_not

-- ---- printed numbers are read

-- the reader that tells numbers past 64 bits apart reads a printed number
pub signed_again : (number : ℤ) (input rest : List ℕ) (place : ℕ) → is_long number ≡ true
    → drop place input ≡ signed_decimal number ++ rest → digits rest ≡ 0
    → signed_at input place ≡ Ok (Ok (number, place + length (signed_decimal number)))
signed_again (pos n) input rest place fits e none =
    let small = above_is n fits in
    let there : is_this 45 (slice_get input place) ≡ false = no_minus (decimal n) input rest place
    (decimal_nonempty n (omega arith)) (digits_decimal own n (omega arith)) e in
    rw there
    (ap (map_value (signed_as pos))
    (natural_again (2 ^ 63 - 1) n input rest place (omega arith) (omega arith) e none))
signed_again (negsuc n) input rest place fits e none =
    let small = below_is n fits in
    let there : is_this 45 (slice_get input place) ≡ true = is_this_again 45 input (decimal (suc n) ++ rest) place e in
    let next : drop (place + 1) input ≡ decimal (suc n) ++ rest =
    behind_is input place (45 ∷ []) (decimal (suc n) ++ rest) e in
    let size : place + 1 + length (decimal (suc n)) ≡ place + suc (length (decimal (suc n))) = omega arith in
    rw there
    (ap (map_value (signed_as negative))
    (positive_again (2 ^ 63) (suc n) input rest (place + 1) (omega arith) small (omega arith) next none)
    ∙ ap (λ (after : ℕ). Ok (Ok (negsuc n, after))) size)

-- a printed number without a sign is read
pub unsigned_again : (number : ℕ) (input rest : List ℕ) (place : ℕ) → number < 2 ^ 64
    → drop place input ≡ decimal number ++ rest → digits rest ≡ 0
    → unsigned_at input place ≡ Ok (number, place + length (decimal number))
unsigned_again number input rest place fits e none =
    ap (λ (r : Result Digits PieceRefusal). r >>= no_more)
    (natural_again (2 ^ 64 - 1) number input rest place (omega arith) fits e none)

-- the reader of numbers with a sign reads a printed number
pub long_again : (number : ℤ) (input rest : List ℕ) (place : ℕ) → is_long number ≡ true
    → drop place input ≡ signed_decimal number ++ rest → digits rest ≡ 0
    → long_at input place ≡ Ok (number, place + length (signed_decimal number))
long_again number input rest place fits e none =
    ap (λ (r : Result Signed PieceRefusal). r >>= of_64_bits) (signed_again number input rest place fits e none)

-- so does the reader of numbers of any size
pub any_number_again : (number : ℤ) (input rest : List ℕ) (place : ℕ) → is_long number ≡ true
    → drop place input ≡ signed_decimal number ++ rest → digits rest ≡ 0
    → any_number_at input place ≡ Ok (Some number, place + length (signed_decimal number))
any_number_again number input rest place fits e none =
    ap (map_value or_none) (signed_again number input rest place fits e none)

-- a printed number from 1 is read as a count
pub count_again : (number : ℤ) (input rest : List ℕ) (place : ℕ) → pos 1 ≤ℤ number → is_long number ≡ true
    → drop place input ≡ signed_decimal number ++ rest → digits rest ≡ 0
    → count_at input place ≡ Ok (number, place + length (signed_decimal number))
count_again (pos n) input rest place some fits e none =
    let small = above_is n fits in
    let above : 0 < n = omega (arith, ints) in
    ap (λ (r : Result Digits PieceRefusal). map_value (λ read. (pos read.0, read.1)) (r >>= no_more))
    (positive_again (2 ^ 63 - 1) n input rest place above (omega arith) (omega arith) e none)
count_again (negsuc n) input rest place some fits e none = absurd (omega (arith, ints))

-- a printed number is not read as an absent one
pub not_absent : (number : ℤ) (input rest : List ℕ) (place : ℕ) → is_long number ≡ true
    → drop place input ≡ signed_decimal number ++ rest → is_absent input place ≡ false
not_absent (pos n) input rest place fits e =
    let small = above_is n fits in
    rw (no_minus (decimal n) input rest place (decimal_nonempty n (omega arith)) (digits_decimal own n (omega arith)) e)
    refl
not_absent (negsuc n) input rest place fits e =
    let small = below_is n fits in
    let next : drop (place + 1) input ≡ decimal (suc n) ++ rest =
    behind_is input place (45 ∷ []) (decimal (suc n) ++ rest) e in
    let first = begins_text (decimal (suc n)) input rest (place + 1) (decimal_nonempty (suc n) (omega arith))
    (first_decimal (suc n) (omega arith) (omega arith)) (digits_decimal own (suc n) (omega arith)) next in
    rw (is_this_again 45 input (decimal (suc n) ++ rest) place e, first) refl

-- a printed number, or the mark of an absent one, is read
pub optional_long_again : (number : Option ℤ) (input rest : List ℕ) (place : ℕ) → is_long_or_none number ≡ true
    → drop place input ≡ optional_text number ++ rest → digits rest ≡ 0
    → optional_long_at input place ≡ Ok (number, place + length (optional_text number))
optional_long_again None input rest place fits e none = absent_again input rest place e (begins_none rest none)
optional_long_again (Some number) input rest place fits e none =
    rw (not_absent number input rest place fits e)
    (ap (map_value (λ read. (Some read.0, read.1))) (long_again number input rest place fits e none))

-- ---- no number begins with a space

-- no printed number without a sign begins with a space
pub unsigned_no_space : (number : ℕ) (rest : List ℕ) → number < 2 ^ 64 → spaces (decimal number ++ rest) ≡ 0
unsigned_no_space number rest fits =
    text_no_space (decimal number) rest (decimal_nonempty number fits) (digits_decimal own number fits)

-- no printed number with a sign begins with a space
pub long_no_space : (number : ℤ) (rest : List ℕ) → is_long number ≡ true → spaces (signed_decimal number ++ rest) ≡ 0
long_no_space (pos n) rest fits = let small = above_is n fits in unsigned_no_space n rest (omega arith)
long_no_space (negsuc n) rest fits = let other : 45 ≢ 32 =
    omega arith in no_space_first 45 (decimal (suc n) ++ rest) other

-- neither a printed number nor the mark of an absent one begins with a space
pub optional_no_space : (number : Option ℤ) (rest : List ℕ) → is_long_or_none number ≡ true
    → spaces (optional_text number ++ rest) ≡ 0
optional_no_space None rest fits = let other : 45 ≢ 32 = omega arith in no_space_first 45 rest other
optional_no_space (Some number) rest fits = long_no_space number rest fits
