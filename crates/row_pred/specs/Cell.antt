-- The reader of a cell: null, true, false, a number, a text between quotes, or bytes in hexadecimal.
use Rattle.std.specs.Prelude.{ℕ, zero, suc, ◌==◌, Bool, true, false, ◌||◌, List, [], ◌∷◌, slice_get, Option, Some}
use Rattle.std.specs.Prelude.{None, Result, Ok, Err, codes, if◌then◌else◌}
use Rattle.std.specs.Option.{option_map}
use Rattle.words.specs.Reading.{◌>>=◌, map_refusal, map_value}
use Rattle.row_types.specs.declared.cell.Cell.{Cell}
use Rattle.row_types.specs.declared.cell.Cell.TheVariants.{Null, Flag, Num, Text, Bytes}
use Rattle.row_types.specs.declared.column.Column.{Column}
use Rattle.row_types.specs.Fits.{fits}
use Rattle.pieces.specs.declared.refusal.PieceRefusal.{PieceRefusal}
use Rattle.pieces.specs.Word.{is_this, one_of}
use Rattle.pieces.specs.Number.{is_digit, any_number_at}
use Rattle.pieces.specs.Literal.{literal_at}
use Rattle.pieces.specs.HexLiteral.{hex_at}
use Rattle.row_pred.specs.declared.refusal.PredRefusal.{PredRefusal}
use Rattle.row_pred.specs.declared.refusal.PredRefusal.TheVariants.{Misfit, NotNull}
use Rattle.row_pred.specs.Refusal.{of_piece}

-- the cells that are words
abbrev pub cell_words : List (List ℕ)
cell_words = codes "null" ∷ codes "true" ∷ codes "false" ∷ []

-- the cell of a word, by its place among them
abbrev pub word_cell : ℕ → Cell
word_cell zero = Null
word_cell (suc zero) = Flag true
word_cell (suc (suc index)) = Flag false

-- a number begins with this byte: a minus sign or a digit
abbrev pub begins_number : Option ℕ → Bool
begins_number None = false
begins_number (Some byte) = byte == 45 || is_digit byte

-- any cell, whatever its column, and the place after it;
-- None for a number that is of no kind, since it is not of 64 bits
abbrev pub any_cell_at : List ℕ → ℕ → Result (Option Cell × ℕ) PieceRefusal
any_cell_at input place =
    if is_this 34 (slice_get input place)
    then map_value (λ read. (Some (Text read.0), read.1)) (literal_at input place)
    else (if is_this 120 (slice_get input place)
    then map_value (λ read. (Some (Bytes read.0), read.1)) (hex_at input place)
    else (if begins_number (slice_get input place)
    then map_value (λ read. (option_map Num read.0, read.1)) (any_number_at input place)
    else map_value (λ read. (Some (word_cell read.0), read.1)) (one_of cell_words input place)))

-- the cell that began at the place, if it may stand in the column
abbrev pub fitted : Column → ℕ → Option Cell × ℕ → Result (Cell × ℕ) PredRefusal
fitted column place (None, after) = Err (Misfit place)
fitted column place (Some Null, after) = if column.required then Err (NotNull column.id) else Ok (Null, after)
fitted column place (Some (Flag flag), after) =
    if fits column (Flag flag) then Ok (Flag flag, after) else Err (Misfit place)
fitted column place (Some (Num number), after) =
    if fits column (Num number) then Ok (Num number, after) else Err (Misfit place)
fitted column place (Some (Text text), after) =
    if fits column (Text text) then Ok (Text text, after) else Err (Misfit place)
fitted column place (Some (Bytes bytes), after) =
    if fits column (Bytes bytes) then Ok (Bytes bytes, after) else Err (Misfit place)

-- a cell of the column, and the place after it
unfoldable pub cell_at : Column → List ℕ → ℕ → Result (Cell × ℕ) PredRefusal
cell_at column input place = map_refusal of_piece (any_cell_at input place) >>= λ read. fitted column place read
