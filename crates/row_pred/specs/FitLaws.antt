-- Laws of what is read: cells fit their columns, and their bytes are below 256.
use Rattle.std.proofs.Common.{◌≡◌, ℕ, zero, suc, ℤ, true, not, List, [], ◌∷◌, ◌++◌, Option, Some, None, IfOk, refl}
use Rattle.std.proofs.Common.{sym, ap, ◌∙◌, append_assoc, subst}
use Rattle.std.specs.Prelude.{slice_get}
use Rattle.std.specs.List.{list_all}
use Rattle.std.specs.Option.{option_map}
use Rattle.std.proofs.lemmas.Bool.{and_from}
use Rattle.std.proofs.lemmas.List.{append-nil}
use Rattle.std.proofs.lemmas.Result.{IfOk-weaker}
use Rattle.words.specs.Reading.{◌>>=◌, map_refusal}
use Rattle.row_types.specs.declared.cell.Cell.{Cell}
use Rattle.row_types.specs.declared.cell.Cell.TheVariants.{Null, Flag, Num, Text, Bytes}
use Rattle.row_types.specs.declared.column.Column.{Column}
use Rattle.row_types.specs.Fits.{fits, fits_row, has_real_bytes, IsRow}
use Rattle.pieces.specs.Word.{is_this, one_of}
use Rattle.pieces.specs.Number.{any_number_at}
use Rattle.pieces.specs.Literal.{literal_at}
use Rattle.pieces.specs.HexLiteral.{hex_at}
use Rattle.pieces.specs.HexLaws.{hex_fits}
use Rattle.words.specs.Holds.{if_read, if_any, if_viewed, if_renamed, if_then, if_chosen, if_passed, if_failed}
use Rattle.row_pred.specs.declared.refusal.PredRefusal.TheVariants.{Misfit, NotNull}
use Rattle.row_pred.specs.Refusal.{of_piece}
use Rattle.row_pred.specs.Cell.{cell_words, word_cell, begins_number, any_cell_at, fitted, cell_at}
use Rattle.row_pred.specs.Cells.{next_at, cells_from, cells_at}

-- ---- one cell

-- the bytes of a cell are below 256, if one was read
abbrev IsReal : Option Cell × ℕ → Type 0
IsReal (None, after) = Unit {0}
IsReal (Some cell, after) = has_real_bytes cell ≡ true

-- a word has no bytes
word_real : (read : ℕ × ℕ) → IsReal (Some (word_cell read.0), read.1)
word_real (zero, after) = refl
word_real (suc zero, after) = refl
word_real (suc (suc index), after) = refl

-- a number has none
number_real : (read : Option ℤ × ℕ) → IsReal (option_map Num read.0, read.1)
number_real (Some number, after) = refl
number_real (None, after) = tt

-- the bytes of any cell that is read are below 256
any_real : (input : List ℕ) (place : ℕ) → IfOk (any_cell_at input place) IsReal
any_real input place =
    if_chosen IsReal (is_this 34 (slice_get input place)) _ _
    (if_viewed IsReal (λ (read : List ℕ × ℕ). (Some (Text read.0), read.1)) (literal_at input place)
    (if_read _ (literal_at input place) (λ read is. refl)))
    (if_chosen IsReal (is_this 120 (slice_get input place)) _ _
    (if_viewed IsReal (λ (read : List ℕ × ℕ). (Some (Bytes read.0), read.1)) (hex_at input place)
    (hex_fits input place))
    (if_chosen IsReal (begins_number (slice_get input place)) _ _
    (if_viewed IsReal (λ (read : Option ℤ × ℕ). (option_map Num read.0, read.1)) (any_number_at input place)
    (if_read _ (any_number_at input place) (λ read is. number_real read)))
    (if_viewed IsReal (λ (read : ℕ × ℕ). (Some (word_cell read.0), read.1)) (one_of cell_words input place)
    (if_read _ (one_of cell_words input place) (λ read is. word_real read)))))

-- the cell may be written in the column
abbrev pub MayStand : Column → Cell × ℕ → Type 0
MayStand column cell = (fits column cell.0 ≡ true) × (has_real_bytes cell.0 ≡ true)

-- what is read for a column may stand in it
fitted_fits : (column : Column) (place : ℕ) (read : Option Cell × ℕ) → IsReal read → IfOk (fitted column place read)
    (MayStand column)
fitted_fits column place (None, after) real = tt
fitted_fits column place (Some Null, after) real =
    if_failed (MayStand column) column.required (Null, after) (NotNull column.id) (λ free. (ap not free, refl))
fitted_fits column place (Some (Flag flag), after) real =
    if_passed (MayStand column) (fits column (Flag flag)) (Flag flag, after) (Misfit place) (λ fit. (fit, refl))
fitted_fits column place (Some (Num number), after) real =
    if_passed (MayStand column) (fits column (Num number)) (Num number, after) (Misfit place) (λ fit. (fit, refl))
fitted_fits column place (Some (Text text), after) real =
    if_passed (MayStand column) (fits column (Text text)) (Text text, after) (Misfit place) (λ fit. (fit, refl))
fitted_fits column place (Some (Bytes bytes), after) real =
    if_passed (MayStand column) (fits column (Bytes bytes)) (Bytes bytes, after) (Misfit place) (λ fit. (fit, real))

-- the cell that is read for a column may stand in it
pub cell_fits : (column : Column) (input : List ℕ) (place : ℕ) → IfOk (cell_at column input place) (MayStand column)
unfolding cell_at
cell_fits column input place =
    if_then IsReal (MayStand column) (map_refusal of_piece (any_cell_at input place)) (λ read. fitted column place read)
    (if_renamed IsReal of_piece (any_cell_at input place) (any_real input place))
    (λ read. fitted_fits column place read)

-- ---- the cells of a row

-- a cell that fits goes before the others of a row
row_on : (column : Column) (columns : List Column) (cell : Cell × ℕ) (cells : List Cell) → MayStand column cell
    → IsRow columns cells → IsRow (column ∷ columns) (cell.0 ∷ cells)
unfolding fits_row
row_on column columns cell cells may row = (
  and_from (fits column cell.0) (fits_row columns cells) may.0 row.0,
  and_from (has_real_bytes cell.0)
      (list_all has_real_bytes cells) may.1 row.1,
)

-- the cells after those that were read are a row of these columns
abbrev IsRowBehind : List Cell → List Column → List Cell × ℕ → Type 0
IsRowBehind read columns cells = (more : List Cell) × (cells.0 ≡ read ++ more) × IsRow columns more

-- so is a row with the cell before it
behind_cell : (read : List Cell) (column : Column) (columns : List Column) (cell : Cell × ℕ) (cells : List Cell × ℕ)
    → MayStand column cell → IsRowBehind (read ++ cell.0 ∷ []) columns cells
    → IsRowBehind read (column ∷ columns) cells
behind_cell read column columns cell cells may others = (
  cell.0 ∷ others.0,
  others.1 ∙ append_assoc read (cell.0 ∷ []) others.0,
  row_on column columns cell others.0 may
      others.2,
)

-- the cells that are read after others are a row of the columns that were left
pub cells_fit_behind : (columns : List Column) (read : List Cell) (input : List ℕ) (place : ℕ)
    → IfOk (cells_from read columns input place) (IsRowBehind read columns)
unfolding cells_from fits_row
cells_fit_behind [] read input place = ([], sym (append-nil read), (refl, refl))
cells_fit_behind (column ∷ columns) read input place =
    if_then (λ _. Unit {0}) (IsRowBehind read (column ∷ columns)) (next_at read input place)
    (λ start. cell_at column input start >>= λ cell. cells_from (read ++ cell.0 ∷ []) columns input cell.1)
    (if_any (next_at read input place)) (λ start _.
    if_then (MayStand column) (IsRowBehind read (column ∷ columns)) (cell_at column input start)
    (λ cell. cells_from (read ++ cell.0 ∷ []) columns input cell.1) (cell_fits column input start) (λ cell may.
    IfOk-weaker (cells_from (read ++ cell.0 ∷ []) columns input cell.1) (IsRowBehind (read ++ cell.0 ∷ []) columns)
    (IsRowBehind read (column ∷ columns)) (λ cells. behind_cell read column columns cell cells may)
    (cells_fit_behind columns (read ++ cell.0 ∷ []) input cell.1)))

-- the cells that are read are a row of the columns
pub cells_fit : (columns : List Column) (input : List ℕ) (place : ℕ) → IfOk (cells_at columns input place)
    (λ cells. IsRow columns cells.0)
cells_fit columns input place =
    IfOk-weaker (cells_at columns input place) (IsRowBehind [] columns) (λ cells. IsRow columns cells.0)
    (λ cells row. subst (IsRow columns) (sym row.1) row.2) (cells_fit_behind columns [] input place)
