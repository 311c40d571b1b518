-- The readers of numbers, at the digits of a printed number.
use Rattle.std.specs.Prelude.{slice_get, nat_lt}
use Rattle.std.specs.Fmt.{decimal}
use Rattle.std.proofs.Common.{inl, inr, ◌≡◌, ℕ, zero, suc, ◌+◌, ◌-◌, ◌*◌, ◌^◌, ◌≤◌, ◌<◌, ◌≢◌, pos, negsuc, Bool, true}
use Rattle.std.proofs.Common.{false, not, cond, List, [], ◌∷◌, ◌++◌, length, get_or, drop, None, Ok, refl, sym, ap}
use Rattle.std.proofs.Common.{◌∙◌, arith, rules}
use Rattle.std.proofs.lemmas.Bool.{cases_Bool, le-ltb, lt-ltb, and_parts, and_from, ltb-true, ltb-false, not-true}
use Rattle.std.proofs.lemmas.Bool.{both_ways, false_from_ne_true}
use Rattle.std.proofs.lemmas.Fmt.{digits_decimal, digits_value-decimal, decimal_digit, decimal_nonempty, first_decimal}
use Rattle.std.proofs.lemmas.Str.Parse.{IsNumeralModel, numerals_by_fold}
use Rattle.words.specs.Parts.{behind_is}
use Rattle.pieces.specs.declared.number.Digits.TheVariants.{Within, Over}
use Rattle.pieces.specs.Word.{is_this, spaces}
use Rattle.pieces.specs.Number.{is_digit, digits, digits_from, begins, positive_at, natural_at, optional_long_at}
use Rattle.pieces.specs.Decimal.{all_digits, is_long}
use Rattle.pieces.specs.WordLaws.{stands_first, is_this_again, is_this_other, no_space_first}

-- the number that digits go on to from a value
abbrev pub value_on : ℕ → List ℕ → ℕ
value_on value [] = value
value_on value (byte ∷ rest) = value_on (value * 10 + (byte - 48)) rest

-- more digits make no smaller number
pub grows : (value : ℕ) (ds : List ℕ) → value ≤ value_on value ds
grows value [] = omega arith
grows value (byte ∷ rest) = let more = grows (value * 10 + (byte - 48)) rest in omega arith

-- where the digits end, the number is read
pub stops_there : (most value : ℕ) (rest : List ℕ) (place : ℕ) → digits rest ≡ 0
    → digits_from most value rest place ≡ Within value place
unfolding digits digits_from
stops_there most value [] place none = refl
stops_there most value (byte ∷ rest) place none =
    elim (cases_Bool (is_digit byte)) [
      | inl is ↦ let h : suc (digits rest) ≡ 0 = rw is at none in absurd (omega arith)
      | inr is_not ↦ rw is_not refl
    ]

-- digits whose number is no more than the most are read to their end
pub digits_again : (ds : List ℕ) (most value number : ℕ) (rest : List ℕ) (place : ℕ) → all_digits ds ≡ true
    → value_on value ds ≡ number → number ≤ most → digits rest ≡ 0
    → digits_from most value (ds ++ rest) place ≡ Within number (place + length ds)
unfolding digits_from
digits_again [] most value number rest place all is le none =
    let same : place ≡ place + 0 = omega arith in
    stops_there most value rest place none ∙ (ap (λ (n : ℕ). Within n place) is ∙ ap (Within number) same)
digits_again (byte ∷ ds) most value number rest place all is le none =
    let parts = and_parts (is_digit byte) (all_digits ds) all in
    let below = grows (value * 10 + (byte - 48)) ds in
    let within : nat_lt most (value * 10 + (byte - 48)) ≡ false = le-ltb _ _ (omega arith) in
    let size : place + 1 + length ds ≡ place + suc (length ds) = omega arith in
    ap (λ (b : Bool).
    cond b (cond (nat_lt most (value * 10 + (byte - 48))) (Over value place (place + 1 + digits (ds ++ rest)))
    (digits_from most (value * 10 + (byte - 48)) (ds ++ rest) (place + 1))) (Within value place)) parts.0
    ∙ (ap
    (λ (b : Bool). cond b (Over value place (place + 1 + digits (ds ++ rest)))
    (digits_from most (value * 10 + (byte - 48)) (ds ++ rest) (place + 1))) within
    ∙ (digits_again ds most (value * 10 + (byte - 48)) number rest (place + 1) parts.1 is le none
    ∙ ap (Within number) size))

-- these are the library's words for digits and their number
pub own : IsNumeralModel (λ ds. all_digits ds ≡ true) (value_on 0)
own = numerals_by_fold _ (search rules) value_on (search rules)

-- digits of which the first is not 0 are a number from 1
pub positive_text : (text : List ℕ) (most number : ℕ) (input rest : List ℕ) (place : ℕ) → 0 < length text
    → 48 < get_or text 0 0 → all_digits text ≡ true → value_on 0 text ≡ number → number ≤ most
    → drop place input ≡ text ++ rest → digits rest ≡ 0
    → positive_at most input place ≡ Ok (Within number (place + length text))
positive_text [] most number input rest place some first all is le e none = absurd (omega arith)
positive_text (byte ∷ text) most number input rest place some first all is le e none =
    let parts = and_parts (is_digit byte) (all_digits text) all in
    let digit = and_parts (nat_lt 47 byte) (nat_lt byte 58) parts.0 in
    let there : begins (slice_get input place) ≡ true = ap begins (stands_first byte input (text ++ rest) place e)
    ∙ and_from _ _ (lt-ltb 48 byte first) digit.1 in
    let read : digits_from most 0 (drop place input) place ≡ Within number (place + suc (length text)) =
    ap (λ (bytes : List ℕ). digits_from most 0 bytes place) e ∙ digits_again (byte ∷ text) most 0 number rest place all
    is le none in
    rw there (ap Ok read)

-- no minus sign stands where a digit does
pub no_minus : (text input rest : List ℕ) (place : ℕ) → 0 < length text → all_digits text ≡ true
    → drop place input ≡ text ++ rest → is_this 45 (slice_get input place) ≡ false
no_minus [] input rest place some all e = absurd (omega arith)
no_minus (byte ∷ text) input rest place some all e =
    let parts = and_parts (is_digit byte) (all_digits text) all in
    let digit = and_parts (nat_lt 47 byte) (nat_lt byte 58) parts.0 in
    let above : 47 < byte = ltb-true 47 byte digit.0 in
    let other : byte ≢ 45 = omega arith in
    is_this_other 45 byte input (text ++ rest) place other e

-- no 0 stands where another digit does
pub no_zero : (text input rest : List ℕ) (place : ℕ) → 0 < length text → 48 < get_or text 0 0
    → drop place input ≡ text ++ rest → is_this 48 (slice_get input place) ≡ false
no_zero [] input rest place some first e = absurd (omega arith)
no_zero (byte ∷ text) input rest place some first e = let other : byte ≢ 48 =
    omega arith in is_this_other 48 byte input (text ++ rest) place other e

-- a number from 1 that is printed is read up to a most
pub positive_again : (most number : ℕ) (input rest : List ℕ) (place : ℕ) → 0 < number → number ≤ most
    → number < 2 ^ 64 → drop place input ≡ decimal number ++ rest → digits rest ≡ 0
    → positive_at most input place ≡ Ok (Within number (place + length (decimal number)))
positive_again most number input rest place some le fits e none =
    positive_text (decimal number) most number input rest place (decimal_nonempty number fits)
    (first_decimal number some fits) (digits_decimal own number fits) (digits_value-decimal own number fits)
    le e none

-- a number from 0 that is printed is read up to a most
pub natural_again : (most number : ℕ) (input rest : List ℕ) (place : ℕ) → number ≤ most → number < 2 ^ 64
    → drop place input ≡ decimal number ++ rest → digits rest ≡ 0
    → natural_at most input place ≡ Ok (Within number (place + length (decimal number)))
natural_again most zero input rest place le fits e none =
    let printed : decimal 0 ≡ 48 ∷ [] = decimal_digit 0 (omega arith) in
    let there : is_this 48 (slice_get input place) ≡ true =
    is_this_again 48 input rest place (e ∙ ap (λ (text : List ℕ). text ++ rest) printed) in
    rw there (ap (λ (text : List ℕ). Ok (Within 0 (place + length text))) (sym printed))
natural_again most (suc number) input rest place le fits e none =
    let some : 0 < suc number = omega arith in
    let there : is_this 48 (slice_get input place) ≡ false = no_zero (decimal (suc number)) input rest place
    (decimal_nonempty (suc number) fits) (first_decimal (suc number) some fits) e in
    rw there (positive_again most (suc number) input rest place some le fits e none)

-- the magnitude of one above 0
pub above_is : (n : ℕ) → is_long (pos n) ≡ true → n < 2 ^ 63
above_is n h = ltb-true n (2 ^ 63) h

-- the magnitude of one below 0
pub below_is : (n : ℕ) → is_long (negsuc n) ≡ true → suc n ≤ 2 ^ 63
below_is n h =
    let parts = and_parts (not (nat_lt (2 ^ 63 - 1) n)) true h in
    let le : n ≤ 2 ^ 63 - 1 = ltb-false _ _ (not-true _ parts.0) in
    omega arith

-- what stands at a place stands first after it
pub first_behind : (input : List ℕ) (place : ℕ) → slice_get input place ≡ slice_get (drop place input) 0
first_behind [] zero = refl
first_behind [] (suc place) = refl
first_behind (byte ∷ rest) zero = refl
first_behind (byte ∷ rest) (suc place) = first_behind rest place

-- what begins with no digit begins no number
pub begins_none : (rest : List ℕ) → digits rest ≡ 0 → begins (slice_get rest 0) ≡ false
unfolding digits
begins_none [] none = refl
begins_none (byte ∷ rest) none =
    elim (cases_Bool (is_digit byte)) [
      | inl is ↦ let h : suc (digits rest) ≡ 0 = rw is at none in absurd (omega arith)
      | inr is_not ↦ false_from_ne_true _ (λ first.
          let parts = and_parts (nat_lt 48 byte) (nat_lt byte 58) first in
          let above : 48 < byte = ltb-true 48 byte parts.0 in
          both_ways (is_digit byte) is_not (and_from _ _ (lt-ltb 47 byte (omega arith)) parts.1))
    ]

-- a number that is printed begins one
pub begins_text : (text input rest : List ℕ) (place : ℕ) → 0 < length text → 48 < get_or text 0 0
    → all_digits text ≡ true → drop place input ≡ text ++ rest → begins (slice_get input place) ≡ true
begins_text [] input rest place some first all e = absurd (omega arith)
begins_text (byte ∷ text) input rest place some first all e =
    let parts = and_parts (is_digit byte) (all_digits text) all in
    let digit = and_parts (nat_lt 47 byte) (nat_lt byte 58) parts.0 in
    ap begins (stands_first byte input (text ++ rest) place e) ∙ and_from _ _ (lt-ltb 48 byte first) digit.1

-- a minus sign alone is read as no number
pub absent_again : (input rest : List ℕ) (place : ℕ) → drop place input ≡ 45 ∷ rest
    → begins (slice_get rest 0) ≡ false → optional_long_at input place ≡ Ok (None, place + 1)
absent_again input rest place e alone =
    let there : is_this 45 (slice_get input place) ≡ true = is_this_again 45 input rest place e in
    let next : begins (slice_get input (place + 1)) ≡ false =
    ap begins
    (first_behind input (place + 1) ∙ ap (λ (bytes : List ℕ). slice_get bytes 0)
    (behind_is input place (45 ∷ []) rest e)) ∙ alone in
    rw (there, next) refl

-- no text of digits does
pub text_no_space : (text rest : List ℕ) → 0 < length text → all_digits text ≡ true → spaces (text ++ rest) ≡ 0
text_no_space [] rest some all = absurd (omega arith)
text_no_space (byte ∷ text) rest some all =
    let parts = and_parts (is_digit byte) (all_digits text) all in
    let digit = and_parts (nat_lt 47 byte) (nat_lt byte 58) parts.0 in
    let above : 47 < byte = ltb-true 47 byte digit.0 in
    let other : byte ≢ 32 = omega arith in
    no_space_first byte (text ++ rest) other
