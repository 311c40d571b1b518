-- Laws of a cell: a printed cell is read, if no digit follows it.
use Rattle.std.proofs.Common.{◌≡◌, ◌≢◌, ℕ, suc, ◌+◌, ◌^◌, ◌<◌, ℤ, pos, negsuc, Bool, true, false, not, ◌&&◌, is_some}
use Rattle.std.proofs.Common.{codes, if◌then◌else◌, List, [], ◌∷◌, ◌++◌, length, drop, Some, Ok, refl, ap, arith}
use Rattle.std.specs.Prelude.{slice_get, nat_lt}
use Rattle.std.specs.Fmt.{decimal, signed_decimal}
use Rattle.std.specs.List.{flat_map}
use Rattle.std.specs.Option.{option_map}
use Rattle.std.proofs.lemmas.Bool.{and_parts, not-true, ltb-true}
use Rattle.std.proofs.lemmas.Fmt.{decimal_nonempty}
use Rattle.words.specs.Reading.{map_value}
use Rattle.row_types.specs.declared.cell.Cell.{Cell}
use Rattle.row_types.specs.declared.cell.Cell.TheVariants.{Null, Flag, Num, Text, Bytes}
use Rattle.row_types.specs.declared.column.Column.{Column}
use Rattle.row_types.specs.Fits.{is_long, fits, has_real_bytes}
use Rattle.row_types.specs.FitsLaws.{number_is_long}
use Rattle.pieces.specs.Word.{is_this, spaces}
use Rattle.pieces.specs.Number.{is_digit, digits}
use Rattle.pieces.specs.Literal.{escape}
use Rattle.pieces.specs.HexLiteral.{hex_digit, hex_begins}
use Rattle.pieces.specs.Decimal.{all_digits}
use Rattle.pieces.specs.WordLaws.{stands_first, is_this_again, is_this_other, no_space_first}
use Rattle.pieces.specs.ChoiceLaws.{one_of_again}
use Rattle.pieces.specs.NumberLaws.{decimal_digits, no_digit_at_end, no_digit_first, any_number_again, long_no_space}
use Rattle.pieces.specs.LiteralLaws.{literal_again}
use Rattle.pieces.specs.HexLaws.{hex_again}
use Rattle.cell_text.specs.Cell.{cell_text}
use Rattle.row_pred.specs.Cell.{cell_words, begins_number, any_cell_at, fitted, cell_at}

-- ---- what follows a cell

-- the text begins with no digit, decimal or hexadecimal
abbrev pub stops : List ℕ → Bool
stops [] = true
stops (byte ∷ rest) = not (is_digit byte) && not (is_some (hex_digit byte))

-- so no digit is there
pub stops_digits : (rest : List ℕ) → stops rest ≡ true → digits rest ≡ 0
stops_digits [] s = no_digit_at_end
stops_digits (byte ∷ rest) s =
    no_digit_first byte rest (not-true _ (and_parts (not (is_digit byte)) (not (is_some (hex_digit byte))) s).0)

-- nor a hexadecimal one
pub stops_hex : (rest : List ℕ) → stops rest ≡ true → hex_begins rest ≡ false
stops_hex [] s = refl
stops_hex (byte ∷ rest) s = not-true _ (and_parts (not (is_digit byte)) (not (is_some (hex_digit byte))) s).1

-- ---- numbers

-- neither a text nor bytes are there, but a number
record Begins (input : List ℕ) (place : ℕ) : Type 0 where
  no_text : is_this 34 (slice_get input place) ≡ false
  no_bytes : is_this 120 (slice_get input place) ≡ false
  number : begins_number (slice_get input place) ≡ true

-- a digit begins a number
digit_begins : (text input rest : List ℕ) (place : ℕ) → 0 < length text → all_digits text ≡ true
    → drop place input ≡ text ++ rest → Begins input place
digit_begins [] input rest place some all e = absurd (omega arith)
digit_begins (byte ∷ text) input rest place some all e =
    let parts = and_parts (is_digit byte) (all_digits text) all in
    let digit = and_parts (nat_lt 47 byte) (nat_lt byte 58) parts.0 in
    let above : 47 < byte = ltb-true 47 byte digit.0 in
    let below : byte < 58 = ltb-true byte 58 digit.1 in
    let no_quote : byte ≢ 34 = omega arith in
    let no_x : byte ≢ 120 = omega arith in
    record {
      no_text = is_this_other 34 byte input (text ++ rest) place no_quote e;
      no_bytes = is_this_other 120 byte input (text ++ rest) place no_x e;
      number = rw (stands_first byte input (text ++ rest) place e, parts.0) (grind arith);
    }

-- so does a number as it is printed
number_begins : (number : ℤ) (input rest : List ℕ) (place : ℕ) → is_long number ≡ true
    → drop place input ≡ signed_decimal number ++ rest → Begins input place
number_begins (pos n) input rest place long e =
    let small : n < 2 ^ 63 = ltb-true n (2 ^ 63) long in
    digit_begins (decimal n) input rest place (decimal_nonempty n (omega arith)) (decimal_digits n (omega arith)) e
number_begins (negsuc n) input rest place long e =
    let first = stands_first 45 input (decimal (suc n) ++ rest) place e in
    record {
      no_text = rw first refl;
      no_bytes = rw first refl;
      number = rw first refl;
    }

-- ---- a cell as it is printed

-- the test holds
taken : {A : Type 0} (test : Bool) (x y z : A) → test ≡ true → x ≡ z → (if test then x else y) ≡ z
taken test x y z holds e = rw holds e

-- the test fails
passed : {A : Type 0} (test : Bool) (x y z : A) → test ≡ false → y ≡ z → (if test then x else y) ≡ z
passed test x y z fails e = rw fails e

-- any cell of a column is read
pub any_cell_again : (column : Column) (cell : Cell) (input rest : List ℕ) (place : ℕ) → fits column cell ≡ true
    → has_real_bytes cell ≡ true → drop place input ≡ cell_text cell ++ rest → stops rest ≡ true
    → any_cell_at input place ≡ Ok (Some cell, place + length (cell_text cell))
any_cell_again column Null input rest place fit real e s =
    rw (
      stands_first 110 input (codes "ull" ++ rest) place e,
      one_of_again cell_words 0 (codes "null")
          input rest place refl refl e,
    ) refl
any_cell_again column (Flag true) input rest place fit real e s =
    rw (
      stands_first 116 input (codes "rue" ++ rest) place e,
      one_of_again cell_words 1 (codes "true")
          input rest place refl refl e,
    ) refl
any_cell_again column (Flag false) input rest place fit real e s =
    rw (
      stands_first 102 input (codes "alse" ++ rest) place e,
      one_of_again cell_words 2 (codes "false")
          input rest place refl refl e,
    ) refl
any_cell_again column (Num number) input rest place fit real e s =
    let long = number_is_long column.kind number fit in
    let begins = number_begins number input rest place long e in
    rw (begins.no_text, begins.no_bytes, begins.number)
    (ap (map_value (λ read. (option_map Num read.0, read.1)))
    (any_number_again number input rest place long e (stops_digits rest s)))
any_cell_again column (Text text) input rest place fit real e s =
    let quote = is_this_again 34 input _ place e in
    taken _ _ _ _ quote
    (ap (map_value (λ (read : List ℕ × ℕ). (Some (Text read.0), read.1))) (literal_again text input rest place e))
any_cell_again column (Bytes bytes) input rest place fit real e s =
    let ne : 120 ≢ 34 = omega arith in
    let no_quote = is_this_other 34 120 input _ place ne e in
    let x = is_this_again 120 input _ place e in
    passed _ _ _ _ no_quote
    (taken _ _ _ _ x
    (ap (map_value (λ (read : List ℕ × ℕ). (Some (Bytes read.0), read.1)))
    (hex_again bytes input rest place real e (stops_hex rest s))))

-- a cell that fits may be there
pub fitted_again : (column : Column) (cell : Cell) (place after : ℕ) → fits column cell ≡ true
    → fitted column place (Some cell, after) ≡ Ok (cell, after)
fitted_again column Null place after fit = rw (not-true column.required fit) refl
fitted_again column (Flag flag) place after fit = rw fit refl
fitted_again column (Num number) place after fit = rw fit refl
fitted_again column (Text text) place after fit = rw fit refl
fitted_again column (Bytes bytes) place after fit = rw fit refl

-- a printed cell is read, by its column
pub cell_again : (column : Column) (cell : Cell) (input rest : List ℕ) (place : ℕ) → fits column cell ≡ true
    → has_real_bytes cell ≡ true → drop place input ≡ cell_text cell ++ rest → stops rest ≡ true
    → cell_at column input place ≡ Ok (cell, place + length (cell_text cell))
unfolding cell_at
cell_again column cell input rest place fit real e s =
    rw (any_cell_again column cell input rest place fit real e s)
    (fitted_again column cell place (place + length (cell_text cell)) fit)

-- no printed cell begins with a space
pub cell_no_space : (column : Column) (cell : Cell) (rest : List ℕ) → fits column cell ≡ true
    → spaces (cell_text cell ++ rest) ≡ 0
cell_no_space column Null rest fit = let ne : 110 ≢ 32 = omega arith in no_space_first 110 (codes "ull" ++ rest) ne
cell_no_space column (Flag true) rest fit =
    let ne : 116 ≢ 32 = omega arith in no_space_first 116 (codes "rue" ++ rest) ne
cell_no_space column (Flag false) rest fit =
    let ne : 102 ≢ 32 = omega arith in no_space_first 102 (codes "alse" ++ rest) ne
cell_no_space column (Num number) rest fit = long_no_space number rest (number_is_long column.kind number fit)
cell_no_space column (Text text) rest fit =
    let ne : 34 ≢ 32 = omega arith in no_space_first 34 ((flat_map escape text ++ codes "\"") ++ rest) ne
cell_no_space column (Bytes bytes) rest fit = let ne : 120 ≢ 32 = omega arith in no_space_first 120 _ ne
