-- The text of a cell is UTF-8, if the cell's own text is.
use Rattle.std.proofs.Common.{◌≡◌, ℕ, zero, suc, ◌<◌, ◌≤◌, ◌==◌, Bool, true, false, ◌&&◌, nat_lt, List, [], ◌∷◌, ◌++◌, length, get_or, IsUtf8, codes, inl, inr, refl, sym, ap₂, subst, arith, append-nil, ltb-true}
use Rattle.std.specs.List.{flat_map}
use Rattle.std.proofs.lemmas.Bool.{and_parts, cases_lt, cases_eq, ne_eqb}
use Rattle.std.proofs.lemmas.Str.{IsUtf8-append, IsUtf8-nil, IsUtf8-encode, encode_ascii, inside_one}
use Rattle.std.proofs.lemmas.Grind.{flat_map-append}
use lib.Utf8.{scalar, scalars, encode, encodes, low_scalar}
use Rattle.std.proofs.lemmas.Str.{IsUtf8-from_ascii}
use Rattle.std.proofs.lemmas.Str.Ascii.{IsAscii-nil, IsAscii-cons}
use Rattle.std.specs.Str.{IsAscii}
use Rattle.hex.specs.Hex.{lower_digits}
use Rattle.hex.proofs.HexLemmas.{IsAscii-encode_with}
use Rattle.pieces.specs.Literal.{escape, literal_text}
use Rattle.pieces.specs.HexLiteral.{hex_text}
use Rattle.cell_text.specs.Cell.{flag_text}

-- an ASCII byte before a text
ascii_then : (x : ℕ) (xs : List ℕ) → x < 128 → IsUtf8 xs → IsUtf8 (x ∷ xs)
ascii_then x xs small u =
    IsUtf8-append (x ∷ []) xs (subst IsUtf8 (encode_ascii x small) (IsUtf8-encode x (low_scalar x (omega arith)))) u

-- each byte is ASCII
abbrev are_ascii : List ℕ → Bool
are_ascii [] = true
are_ascii (x ∷ xs) = nat_lt x 128 && are_ascii xs

-- such bytes are a text
ascii_text : (xs : List ℕ) → are_ascii xs ≡ true → IsUtf8 xs
ascii_text [] e = IsUtf8-nil
ascii_text (x ∷ xs) e = let p = and_parts _ _ e in ascii_then x xs (ltb-true _ _ p.0) (ascii_text xs p.1)

-- so are they by the library's word
all_ascii : (xs : List ℕ) → are_ascii xs ≡ true → IsAscii xs
all_ascii [] e = IsAscii-nil
all_ascii (x ∷ xs) e = let p = and_parts _ _ e in IsAscii-cons x xs (ltb-true _ _ p.0) (all_ascii xs p.1)

-- what stands for each byte below n is ASCII
abbrev escapes_below : ℕ → Bool
escapes_below zero = true
escapes_below (suc n) = are_ascii (escape n) && escapes_below n

-- what stands for one of them is
escape_below : (n : ℕ) → escapes_below n ≡ true → (x : ℕ) → x < n → are_ascii (escape x) ≡ true
escape_below zero e x h = absurd (omega arith)
escape_below (suc n) e x h =
    let p = and_parts _ _ e in
    elim (cases_eq x n) [
      | inl same ↦ rw same p.0
      | inr other ↦ escape_below n p.1 x (omega arith)
    ]

-- a byte is another one than a smaller one
other_byte : (x least : ℕ) → least < 128 → 128 ≤ x → (x == least) ≡ false
other_byte x least small high =
    ne_eqb x least (λ same. absurd (omega arith))

-- a byte that is not ASCII stands for itself
escape_high : (x : ℕ) → 128 ≤ x → escape x ≡ x ∷ []
escape_high x high =
    rw (
      other_byte x 34 (omega arith) high,
      other_byte x 92 (omega arith) high,
      other_byte x 10 (omega arith) high,
      other_byte x 13 (omega arith) high,
      other_byte x 9 (omega arith) high,
    ) refl

-- so do several
escapes_high : (xs : List ℕ) → ((k : ℕ) → k < length xs → 128 ≤ get_or xs k 0) → flat_map escape xs ≡ xs
escapes_high [] h = refl
escapes_high (x ∷ xs) h =
    let high : 128 ≤ x = h 0 (omega arith) in
    ap₂ (λ (a b : List ℕ). a ++ b) (escape_high x high) (escapes_high xs (λ k below. h (suc k) (omega arith)))

-- what stands for a character is a text
one_char : (c : ℕ) → scalar c ≡ true → IsUtf8 (flat_map escape (encode c))
one_char c ok = elim (cases_lt c 128) [
  | inl small ↦ rw (encode_ascii c small, append-nil) (ascii_text _ (escape_below 128 refl c small))
  | inr big ↦
      let high : (k : ℕ) → k < length (encode c) → 128 ≤ get_or (encode c) k 0 =
      λ k below. elim (cases_lt (get_or (encode c) k 0) 128) [
        | inl low ↦ absurd (omega (arith, inside_one c [] (encode c) k (sym (append-nil _)) below low))
        | inr h ↦ h
      ] in
      subst IsUtf8 (sym (escapes_high (encode c) high)) (IsUtf8-encode c ok)
]

-- so is what stands for several
all_chars : (cs : List ℕ) → scalars cs ≡ true → IsUtf8 (flat_map escape (encodes cs))
all_chars [] e = IsUtf8-nil
all_chars (c ∷ cs) e =
    let p = and_parts _ _ e in
    subst IsUtf8 (sym (flat_map-append escape (encode c) (encodes cs)))
    (IsUtf8-append _ _ (one_char c p.0) (all_chars cs p.1))

-- a text between quotes is a text
pub literal_is_text : (text : List ℕ) → IsUtf8 text → IsUtf8 (literal_text text)
literal_is_text text u =
    ascii_then 34 _ (omega arith)
    (IsUtf8-append _ _ (subst (λ l. IsUtf8 (flat_map escape l)) u.1.1 (all_chars u.0 u.1.0)) (ascii_text (34 ∷ []) refl))

-- the text of a flag is a text
pub flag_is_text : (flag : Bool) → IsUtf8 (flag_text flag)
flag_is_text true = ascii_text (codes "true") refl
flag_is_text false = ascii_text (codes "false") refl

-- so is null
pub null_is_text : IsUtf8 (codes "null")
null_is_text = ascii_text (codes "null") refl

-- so are bytes in hexadecimal
pub hex_is_text : (bytes : List ℕ) → IsUtf8 (hex_text bytes)
hex_is_text bytes =
    let small : 120 < 128 = omega arith in
    let digits = all_ascii lower_digits refl in
    ascii_then 120 _ small (IsUtf8-from_ascii _ (IsAscii-encode_with lower_digits bytes digits))
