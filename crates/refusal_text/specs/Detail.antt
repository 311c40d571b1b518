-- What follows the word of a refusal.
use Rattle.std.specs.Prelude.{ℕ, List, [], ◌++◌, codes, decimal}
use Rattle.std.specs.Fmt.{signed_decimal}
use Rattle.pieces.specs.HexLiteral.{hex_text}
use Rattle.pieces.specs.Literal.{literal_text}
use Rattle.refusal_text.specs.declared.detail.Detail.{Detail}
use Rattle.refusal_text.specs.declared.detail.Detail.TheVariants.{Nothing, Number, Id, Numbers, Hex, Quoted, Named}

-- a space, and then what the detail has; or nothing
abbrev pub detail_text : Detail → List ℕ
detail_text Nothing = []
detail_text (Number number) = codes " " ++ decimal number
detail_text (Id id) = codes " " ++ signed_decimal id
detail_text (Numbers first second) =
    codes " " ++ (signed_decimal first ++ (codes " " ++ signed_decimal second))
detail_text (Hex bytes) = codes " " ++ hex_text bytes.now
detail_text (Quoted text) = codes " " ++ literal_text text.now
detail_text (Named number name) = codes " " ++ (decimal number ++ (codes " " ++ name.now))
