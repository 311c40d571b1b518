-- The cells of a row, step by step.
use Rattle.std.proofs.Common.{◌≡◌, ℕ, ◌+◌, ◌≤◌, ◌<◌, List, [], ◌∷◌, ◌++◌, length, drop, get_or, Result, Ok, Err, refl}
use Rattle.std.proofs.Common.{sym, ap, ◌∙◌}
use Rattle.std.proofs.lemmas.List.{at_drop_more, at_drop_all}
use Rattle.std.specs.Bool.{OnFalse}
use Rattle.words.specs.Reading.{◌>>=◌}
use Rattle.words.specs.Laws.{refused_so}
use Rattle.pieces.specs.declared.refusal.PieceRefusal.{PieceRefusal}
use Rattle.pieces.specs.Word.{end_at}
use Rattle.row_types.specs.declared.cell.Cell.{Cell}
use Rattle.row_types.specs.declared.column.Column.{Column}
use Rattle.row_pred.specs.declared.refusal.PredRefusal.{PredRefusal}
use Rattle.row_pred.specs.Refusal.{is_memory, of_piece}
use Rattle.row_pred.specs.Cell.{cell_at}
use Rattle.row_pred.specs.Cells.{next_at, cells_from, cells_at, cells_of}

-- the cell of the next column
cells_step : (read : List Cell) (columns : List Column) (column : Column) (input : List ℕ) (i place : ℕ)
    → i < length columns → column ≡ get_or columns i column
    → cells_from read (drop i columns) input place ≡ (next_at read input place >>= λ start. cell_at column input start >>= λ cell. cells_from (read ++ cell.0 ∷ []) (drop (i + 1) columns) input cell.1)
unfolding cells_from
cells_step read columns column input i place inside is =
    at_drop_more (λ (rest : List Column). cells_from read rest input place) columns i column inside
    ∙ ap (λ (item : Column). next_at read input place >>= λ start. cell_at item input start >>= λ cell. cells_from (read ++ cell.0 ∷ []) (drop (i + 1) columns) input cell.1) (sym is)

-- one more cell was read
pub cells_on : (read : List Cell) (columns : List Column) (column : Column) (input : List ℕ) (i place start after : ℕ)
    (cell : Cell) (total : Result (List Cell × ℕ) PredRefusal) → i < length columns → column ≡ get_or columns i column
    → next_at read input place ≡ Ok start → cell_at column input start ≡ Ok (cell, after)
    → cells_from read (drop i columns) input place ≡ total → cells_from (read ++ cell ∷ [])
    (drop (i + 1) columns) input after ≡ total
cells_on read columns column input i place start after cell total inside is next one so_far =
    sym (cells_step read columns column input i place inside is ∙ rw (next, one) refl) ∙ so_far

-- no cell begins there
pub cells_stopped : (read : List Cell) (columns : List Column) (column : Column) (input : List ℕ) (i place : ℕ)
    (refusal : PredRefusal) (total : Result (List Cell × ℕ) PredRefusal) → i < length columns
    → column ≡ get_or columns i column → next_at read input place ≡ Err refusal
    → cells_from read (drop i columns) input place ≡ total → total ≡ Err refusal
cells_stopped read columns column input i place refusal total inside is next so_far =
    sym so_far ∙ (cells_step read columns column input i place inside is ∙ rw next refl)

-- the next cell is refused
pub cells_refused : (read : List Cell) (columns : List Column) (column : Column) (input : List ℕ) (i place start : ℕ)
    (refusal : PredRefusal) (total : Result (List Cell × ℕ) PredRefusal) → i < length columns
    → column ≡ get_or columns i column → next_at read input place ≡ Ok start
    → cell_at column input start ≡ Err refusal → cells_from read (drop i columns) input place ≡ total
    → total ≡ Err refusal
cells_refused read columns column input i place start refusal total inside is next one so_far =
    sym so_far ∙ (cells_step read columns column input i place inside is ∙ rw (next, one) refl)

-- no column is left
pub cells_end : (read : List Cell) (columns : List Column) (input : List ℕ) (i place : ℕ) (total : Result (List Cell × ℕ) PredRefusal) → length columns ≤ i → cells_from read (drop i columns) input place ≡ total → total ≡ Ok (read, place)
unfolding cells_from
cells_end read columns input i place total past so_far =
    sym so_far ∙ at_drop_all (λ (rest : List Column). cells_from read rest input place) columns i past

-- ---- a row that is the whole text

-- no row begins the text
pub row_refused : (lent columns : List Column) (text : List ℕ) (refusal : PredRefusal) → lent ≡ columns → OnFalse (is_memory refusal) (cells_at lent text 0 ≡ Err refusal) → OnFalse (is_memory refusal) (cells_of columns text ≡ Err refusal)
unfolding cells_of
row_refused lent columns text refusal same h =
    let so : cells_at lent text 0 ≡ Err refusal → cells_of columns text ≡ Err refusal = λ refused. rw (sym same, refused) refl in
    refused_so (is_memory refusal) so h

-- something stands behind the row
pub row_stopped : (lent columns : List Column) (text : List ℕ) (cells : List Cell) (after : ℕ) (refusal : PieceRefusal) → lent ≡ columns → cells_at lent text 0 ≡ Ok (cells, after) → end_at text after ≡ Err refusal → cells_of columns text ≡ Err (of_piece refusal)
unfolding cells_of
row_stopped lent columns text cells after refusal same read end = rw (sym same, read, end) refl

-- the row is the text
pub row_whole : (lent columns : List Column) (text : List ℕ) (cells : List Cell) (after : ℕ) → lent ≡ columns → cells_at lent text 0 ≡ Ok (cells, after) → end_at text after ≡ Ok tt → cells_of columns text ≡ Ok cells
unfolding cells_of
row_whole lent columns text cells after same read end = rw (sym same, read, end) refl
