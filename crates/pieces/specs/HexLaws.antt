-- Laws of bytes in hexadecimal: printed bytes are read, and what is read is bytes.
use Rattle.std.specs.Prelude.{IfOk}
use Rattle.std.specs.List.{list_all}
use Rattle.std.proofs.Common.{◌≡◌, ℕ, ◌+◌, true, false, nat_lt, List, [], ◌∷◌, ◌++◌, length, drop, None, Result, Ok}
use Rattle.std.proofs.Common.{Err, refl, arith}
use Rattle.hex.specs.Hex.{encode_lower}
use Rattle.words.specs.Reading.{◌>>=◌}
use Rattle.words.specs.Parts.{behind_is}
use Rattle.pieces.specs.declared.refusal.PieceRefusal.{PieceRefusal}
use Rattle.pieces.specs.Word.{byte_at}
use Rattle.pieces.specs.HexLiteral.{hex_text, pairs_at, hex_at, hex_begins, are_bytes}
use Rattle.pieces.specs.WordLaws.{byte_again}
use Rattle.pieces.specs.HexTexts.{pairs_again}
use Rattle.pieces.specs.HexFits.{pairs_fit}

-- printed bytes are read, if no hexadecimal digit follows them
pub hex_again : (bytes input rest : List ℕ) (place : ℕ) → list_all (λ b. nat_lt b 256) bytes ≡ true
    → drop place input ≡ hex_text bytes ++ rest → hex_begins rest ≡ false
    → hex_at input place ≡ Ok (bytes, place + length (hex_text bytes))
hex_again bytes input rest place small front stops =
    let size : place + 1 + length (encode_lower bytes) ≡ place + length (hex_text bytes) = omega arith in
    rw (
      byte_again 120 input (encode_lower bytes ++ rest) place front,
      behind_is input place (120 ∷ [])
          (encode_lower bytes ++ rest) front,
      pairs_again bytes [] rest (place + 1) small stops,
      size,
    ) refl

-- what is read is bytes
pub hex_fits : (input : List ℕ) (place : ℕ) → IfOk (hex_at input place) (λ read. are_bytes read.0 ≡ true)
hex_fits input place = go (byte_at 120 input place) where
  go : (start : Result ℕ PieceRefusal) → IfOk (start >>= λ start. pairs_at None [] (drop start input) start)
      (λ read. are_bytes read.0 ≡ true)
  go (Ok start) = pairs_fit None [] (drop start input) start tt refl
  go (Err refusal) = tt
