-- A cell as it is printed: null, true, false, a number, a text between quotes, or bytes in hexadecimal.
use Rattle.std.specs.Prelude.{ℕ, ◌+◌, ◌*◌, Bool, List, length, codes, if◌then◌else◌}
use Rattle.std.specs.Fmt.{signed_decimal}
use Rattle.row_types.specs.declared.cell.Cell.{Cell}
use Rattle.row_types.specs.declared.cell.Cell.TheVariants.{Null, Flag, Num, Text, Bytes}
use Rattle.pieces.specs.Literal.{literal_text}
use Rattle.pieces.specs.HexLiteral.{hex_text}

-- the text of a flag
abbrev pub flag_text : Bool → List ℕ
flag_text flag = if flag then codes "true" else codes "false"

-- the one text of a cell
abbrev pub cell_text : Cell → List ℕ
cell_text Null = codes "null"
cell_text (Flag flag) = flag_text flag
cell_text (Num number) = signed_decimal number
cell_text (Text text) = literal_text text
cell_text (Bytes bytes) = hex_text bytes

-- how many bytes that text has at most
abbrev pub most_bytes : Cell → ℕ
most_bytes Null = 4
most_bytes (Flag flag) = 5
most_bytes (Num number) = 20
most_bytes (Text text) = 2 * length text + 2
most_bytes (Bytes bytes) = 2 * length bytes + 1
