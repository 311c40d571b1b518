-- Each printed line is UTF-8, and LF doesn't stand in it.
use Rattle.std.proofs.Common.{◌≡◌, ℕ, suc, ◌-◌, ◌/◌, ◌%◌, ◌^◌, ◌<◌, ◌≤◌, ℤ, pos, negsuc, ◌==◌, Bool, true, not, ◌&&◌}
use Rattle.std.proofs.Common.{codes, nat_lt, List, [], ◌∷◌, ◌++◌, length, get_or, slice_index, Option, Some, None}
use Rattle.std.proofs.Common.{IsUtf8, inl, inr, refl, sym, ap, ap₂, ◌∙◌, subst, arith, append-nil}
use Rattle.std.specs.Fmt.{decimal, signed_decimal}
use Rattle.std.specs.List.{flat_map, list_all}
use Rattle.std.specs.Str.{is_utf8}
use Rattle.std.proofs.lemmas.Bool.{agree_below_at, and_parts, and_from, cases_lt, ne_eqb, ltb-true, ltb-false, not-true}
use Rattle.std.proofs.lemmas.List.Concat.{flat_map-append}
use Rattle.std.proofs.lemmas.List.Folds.{list_all-append}
use Rattle.std.proofs.lemmas.Str.{IsUtf8-append, IsUtf8-nil, IsUtf8-encode, IsUtf8-from_is_utf8, encode_ascii}
use Rattle.std.proofs.lemmas.Str.{inside_one}
use lib.Utf8.{scalar, scalars, encode, encodes, low_scalar}
use Rattle.hex.specs.Hex.{encode_lower, encode_with, lower_digits}
use Rattle.pieces.specs.Number.{is_digit, optional_text}
use Rattle.pieces.specs.Literal.{escape, literal_text}
use Rattle.pieces.specs.HexLiteral.{hex_text}
use Rattle.pieces.specs.Decimal.{all_digits, is_long_or_none}
use Rattle.pieces.specs.NumberLaws.{decimal_digits}
use Rattle.row_types.specs.KindWordLaws.{is_graphic}
use Rattle.row_types.specs.Fits.{is_long}

-- ---- bytes of a line

-- no byte is LF
abbrev pub is_inner : ℕ → Bool
is_inner byte = not (byte == 10)

-- bytes of one line, which are UTF-8
pub record IsLine (text : List ℕ) : Type 0 where
  pub inner : list_all is_inner text ≡ true
  pub utf8 : IsUtf8 text

-- none
pub empty_line : IsLine []
empty_line = record { inner = refl; utf8 = IsUtf8-nil }

-- one behind the other
pub line_append : (front rest : List ℕ) → IsLine front → IsLine rest → IsLine (front ++ rest)
line_append front rest one two = record {
  inner = list_all-append is_inner front rest ∙ and_from _ _ one.inner two.inner;
  utf8 = IsUtf8-append front rest one.utf8 two.utf8;
}

-- an ASCII byte other than LF
abbrev pub is_plain : ℕ → Bool
is_plain byte = nat_lt byte 128 && not (byte == 10)

-- such a byte
plain_byte : (byte : ℕ) → is_plain byte ≡ true → IsLine (byte ∷ [])
plain_byte byte is =
    let parts = and_parts (nat_lt byte 128) (not (byte == 10)) is in
    let small : byte < 128 = ltb-true byte 128 parts.0 in
    record {
      inner = and_from (not (byte == 10)) true parts.1 refl;
      utf8 = subst IsUtf8 (encode_ascii byte small) (IsUtf8-encode byte (low_scalar byte (omega arith)));
    }

-- such a byte before others
pub plain_then : (byte : ℕ) (rest : List ℕ) → is_plain byte ≡ true → IsLine rest → IsLine (byte ∷ rest)
plain_then byte rest is line = line_append (byte ∷ []) rest (plain_byte byte is) line

-- such bytes
pub plain_line : (text : List ℕ) → list_all is_plain text ≡ true → IsLine text
plain_line [] all = empty_line
plain_line (byte ∷ text) all =
    let parts = and_parts (is_plain byte) (list_all is_plain text) all in
    plain_then byte text parts.0 (plain_line text parts.1)

-- a graphic character is such a byte
graphic_plain : (byte : ℕ) → is_graphic byte ≡ true → is_plain byte ≡ true
graphic_plain byte is =
    let parts = and_parts (nat_lt 32 byte) (nat_lt byte 127) is in
    let above : 32 < byte = ltb-true 32 byte parts.0 in
    let below : byte < 127 = ltb-true byte 127 parts.1 in
    grind arith

-- such characters
pub graphic_line : (text : List ℕ) → list_all is_graphic text ≡ true → IsLine text
graphic_line [] all = empty_line
graphic_line (byte ∷ text) all =
    let parts = and_parts (is_graphic byte) (list_all is_graphic text) all in
    plain_then byte text (graphic_plain byte parts.0) (graphic_line text parts.1)

-- ---- numbers

-- a digit is such a byte
digit_plain : (byte : ℕ) → is_digit byte ≡ true → is_plain byte ≡ true
digit_plain byte is =
    let parts = and_parts (nat_lt 47 byte) (nat_lt byte 58) is in
    let above : 47 < byte = ltb-true 47 byte parts.0 in
    let below : byte < 58 = ltb-true byte 58 parts.1 in
    grind arith

-- digits
digits_line : (text : List ℕ) → all_digits text ≡ true → IsLine text
digits_line [] all = empty_line
digits_line (byte ∷ text) all =
    let parts = and_parts (is_digit byte) (all_digits text) all in
    plain_then byte text (digit_plain byte parts.0) (digits_line text parts.1)

-- a number without sign
pub decimal_line : (number : ℕ) → number < 2 ^ 64 → IsLine (decimal number)
decimal_line number fits = digits_line (decimal number) (decimal_digits number fits)

-- a number with a sign
pub signed_line : (number : ℤ) → is_long number ≡ true → IsLine (signed_decimal number)
signed_line (pos n) fits = let small : n < 2 ^ 63 = ltb-true n (2 ^ 63) fits in decimal_line n (omega arith)
signed_line (negsuc n) fits =
    let parts = and_parts (not (nat_lt (2 ^ 63 - 1) n)) true fits in
    let le : n ≤ 2 ^ 63 - 1 = ltb-false _ _ (not-true _ parts.0) in
    plain_then 45 (decimal (suc n)) refl (decimal_line (suc n) (omega arith))

-- a number or its absence
pub optional_line : (number : Option ℤ) → is_long_or_none number ≡ true → IsLine (optional_text number)
optional_line None fits = plain_line (codes "-") refl
optional_line (Some number) fits = signed_line number fits

-- ---- texts

-- an ASCII byte as it is printed
escape_small : (byte : ℕ) → byte < 128 → list_all is_plain (escape byte) ≡ true
escape_small byte small = agree_below_at (λ n. list_all is_plain (escape n)) (λ _. true) 128 byte refl small

-- another byte is printed as itself
escape_high : (byte : ℕ) → 128 ≤ byte → escape byte ≡ byte ∷ []
escape_high byte high = rw (ne_eqb byte 34 (omega arith), ne_eqb byte 92 (omega arith), ne_eqb byte 10 (omega arith), ne_eqb byte 13 (omega arith), ne_eqb byte 9 (omega arith)) refl

-- so are such bytes
escape_all : (bytes : List ℕ) → ((k : ℕ) → k < length bytes → 128 ≤ get_or bytes k 0) → flat_map escape bytes ≡ bytes
escape_all [] high = refl
escape_all (byte ∷ bytes) high =
    let here : 128 ≤ byte = high 0 (omega arith) in
    ap₂ (λ (a b : List ℕ). a ++ b) (escape_high byte here) (escape_all bytes (λ k below. high (suc k) (omega arith)))

-- and none of them is LF
high_inner : (bytes : List ℕ) → ((k : ℕ) → k < length bytes → 128 ≤ get_or bytes k 0) → list_all is_inner bytes ≡ true
high_inner [] high = refl
high_inner (byte ∷ bytes) high =
    let here : 128 ≤ byte = high 0 (omega arith) in
    and_from (is_inner byte) (list_all is_inner bytes) (ap not (ne_eqb byte 10 (omega arith))) (high_inner bytes (λ k below. high (suc k) (omega arith)))

-- a character as it is printed
char_line : (c : ℕ) → scalar c ≡ true → IsLine (flat_map escape (encode c))
char_line c ok = elim (cases_lt c 128) [
  | inl small ↦ rw (encode_ascii c small, append-nil) (plain_line _ (escape_small c small))
  | inr big ↦
      let high : (k : ℕ) → k < length (encode c) → 128 ≤ get_or (encode c) k 0 = λ k below. elim (cases_lt (get_or (encode c) k 0) 128) [
        | inl low ↦ absurd (omega (arith, inside_one c [] (encode c) k (sym (append-nil _)) below low))
        | inr h ↦ h
      ] in
      subst IsLine (sym (escape_all (encode c) high)) (record { inner = high_inner (encode c) high; utf8 = IsUtf8-encode c ok })
]

-- characters
chars_line : (cs : List ℕ) → scalars cs ≡ true → IsLine (flat_map escape (encodes cs))
chars_line [] ok = empty_line
chars_line (c ∷ cs) ok =
    let parts = and_parts (scalar c) (scalars cs) ok in
    subst IsLine (sym (flat_map-append escape (encode c) (encodes cs))) (line_append (flat_map escape (encode c)) (flat_map escape (encodes cs)) (char_line c parts.0) (chars_line cs parts.1))

-- a text between quotes
pub literal_line : (text : List ℕ) → is_utf8 text ≡ true → IsLine (literal_text text)
literal_line text ok =
    let is = IsUtf8-from_is_utf8 text ok in
    let content : IsLine (flat_map escape text) = subst (λ (l : List ℕ). IsLine (flat_map escape l)) is.1.1 (chars_line is.0 is.1.0) in
    plain_then 34 (flat_map escape text ++ codes "\"") refl (line_append (flat_map escape text) (codes "\"") content (plain_line (codes "\"") refl))

-- ---- bytes

-- a digit of a byte
hex_plain : (digit : ℕ) → digit < 16 → is_plain (slice_index lower_digits digit) ≡ true
hex_plain digit small = agree_below_at (λ n. is_plain (slice_index lower_digits n)) (λ _. true) 16 digit refl small

-- the digits of bytes
pairs_line : (bytes : List ℕ) → list_all (λ b. nat_lt b 256) bytes ≡ true → IsLine (encode_lower bytes)
unfolding encode_with
pairs_line [] small = empty_line
pairs_line (byte ∷ bytes) small =
    let parts = and_parts (nat_lt byte 256) (list_all (λ b. nat_lt b 256) bytes) small in
    let fits : byte < 256 = ltb-true byte 256 parts.0 in
    plain_then _ _ (hex_plain (byte / 16) (omega arith)) (plain_then _ _ (hex_plain (byte % 16) (omega arith)) (pairs_line bytes parts.1))

-- bytes in hexadecimal
pub hex_line : (bytes : List ℕ) → list_all (λ b. nat_lt b 256) bytes ≡ true → IsLine (hex_text bytes)
hex_line bytes small = plain_then 120 (encode_lower bytes) refl (pairs_line bytes small)
