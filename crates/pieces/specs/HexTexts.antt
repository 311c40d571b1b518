-- The reader of pairs of digits, at printed bytes.
use Rattle.std.proofs.Common.{◌≡◌, ℕ, ◌+◌, ◌*◌, ◌/◌, ◌%◌, ◌<◌, ◌==◌, true, false, List, [], ◌∷◌, ◌++◌, length}
use Rattle.std.proofs.Common.{slice_index, nat_lt, is_some, unwrap_or, Option, Some, None, Ok, refl, ap, arith}
use Rattle.std.proofs.Common.{append_assoc}
use Rattle.std.specs.List.{list_all}
use Rattle.std.proofs.lemmas.Bool.{agree_below_at, and_parts, eqb-true, ltb-true}
use Rattle.std.proofs.lemmas.List.{append-nil}
use Rattle.hex.specs.Hex.{encode_lower, encode_with, lower_digits}
use Rattle.pieces.specs.HexLiteral.{hex_digit, pairs_at, hex_begins}

-- a value that is not 99 was there
some_from_unwrap : (o : Option ℕ) (d : ℕ) → d < 16 → unwrap_or o 99 ≡ d → o ≡ Some d
some_from_unwrap (Some v) d lt e = ap Some e
some_from_unwrap None d lt e = absurd (omega arith)

-- a digit as it is printed is read as its value
digit_again : (d : ℕ) → d < 16 → hex_digit (slice_index lower_digits d) ≡ Some d
digit_again d lt = some_from_unwrap (hex_digit (slice_index lower_digits d)) d lt
    (eqb-true (unwrap_or (hex_digit (slice_index lower_digits d)) 99) d
    (agree_below_at (λ n. unwrap_or (hex_digit (slice_index lower_digits n)) 99 == n) (λ _. true) 16 d refl lt))

-- no value
none_from : (o : Option ℕ) → is_some o ≡ false → o ≡ None
none_from None h = refl
none_from (Some v) h = cc

-- what begins with no digit holds no pair
no_pair : (read rest : List ℕ) (place : ℕ) → hex_begins rest ≡ false → pairs_at None read rest place ≡ Ok (read, place)
unfolding pairs_at
no_pair read [] place stops = refl
no_pair read (byte ∷ rest) place stops = rw (none_from (hex_digit byte) stops) refl

-- printed bytes are read
pub pairs_again : (bytes read rest : List ℕ) (place : ℕ) → list_all (λ b. nat_lt b 256) bytes ≡ true
    → hex_begins rest ≡ false
    → pairs_at None read (encode_lower bytes ++ rest) place ≡ Ok (read ++ bytes, place + length (encode_lower bytes))
unfolding pairs_at encode_with
pairs_again [] read rest place small stops =
    let none : place + 0 ≡ place = omega arith in
    rw (append-nil read, none) (no_pair read rest place stops)
pairs_again (byte ∷ bytes) read rest place small stops =
    let parts = and_parts (nat_lt byte 256) (list_all (λ b. nat_lt b 256) bytes) small in
    let fits : byte < 256 = ltb-true byte 256 parts.0 in
    let whole : byte / 16 * 16 + byte % 16 ≡ byte = omega arith in
    let high = digit_again (byte / 16) (omega arith) in
    let low = digit_again (byte % 16) (omega arith) in
    let size : place + length (encode_lower (byte ∷ bytes)) ≡ place + 1 + 1 + length (encode_lower bytes) =
    omega arith in
    rw (
      high,
      low,
      whole,
      pairs_again bytes (read ++ byte ∷ []) rest (place + 1 + 1) parts.1 stops,
      append_assoc read
          (byte ∷ []) bytes,
      size,
    ) refl
