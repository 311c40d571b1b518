-- How rows are printed: one line each, the id, the sequence number of the last change, and the cells.
use Rattle.std.specs.Prelude.{ℕ, List, ◌++◌, codes}
use Rattle.std.specs.Fmt.{signed_decimal}
use Rattle.std.specs.List.{flat_map}
use Rattle.hex.specs.Hex.{encode_lower}
use Rattle.row_types.specs.declared.row.Row.{Row}
use Rattle.pieces.specs.Number.{optional_text}
use Rattle.pieces.specs.Literal.{escape}
use Rattle.row_pred.specs.Cells.{cells_text}
use Rattle.lineage_cli.specs.declared.output.Form.{Form}
use Rattle.lineage_cli.specs.declared.output.Form.TheVariants.{Plain, Escaped, Digits}

-- a piece, and a space after it
abbrev pub spaced : List ℕ → List ℕ
spaced piece = piece ++ codes " "

-- a row on a line: its id, or - where it has none, its last change, and its cells
abbrev pub row_line : Row → List ℕ
row_line row =
    spaced (optional_text row.id) ++ (spaced (signed_decimal row.last) ++ (cells_text row.cells ++ codes "\n"))

-- a line for each row
abbrev pub lines : List Row → List ℕ
lines rows = flat_map row_line rows

-- a part of bytes in this form: as they are, as a text is written between quotes, or in hexadecimal
abbrev pub part_text : Form → List ℕ → List ℕ
part_text Plain part = part
part_text Escaped part = flat_map escape part
part_text Digits part = encode_lower part
