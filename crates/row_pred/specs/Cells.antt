-- The cells of a row as they are in a text: in the order of the columns, one in each, with one space between them,
-- or more of them on reading.
use Rattle.std.specs.Prelude.{ℕ, List, [], ◌∷◌, ◌++◌, Result, Ok, codes}
use Rattle.std.specs.List.{flat_map}
use Rattle.words.specs.Reading.{◌>>=◌, map_refusal}
use Rattle.row_types.specs.declared.cell.Cell.{Cell}
use Rattle.row_types.specs.declared.column.Column.{Column}
use Rattle.pieces.specs.Word.{gap_at, end_at}
use Rattle.row_pred.specs.declared.refusal.PredRefusal.{PredRefusal}
use Rattle.row_pred.specs.Refusal.{of_piece}
use Rattle.cell_text.specs.Cell.{cell_text}
use Rattle.row_pred.specs.Cell.{cell_at}

-- ---- as they are printed

-- a cell after another one
abbrev pub spaced_text : Cell → List ℕ
spaced_text cell = codes " " ++ cell_text cell

-- the one text that cells are printed as
abbrev pub cells_text : List Cell → List ℕ
cells_text [] = []
cells_text (cell ∷ cells) = cell_text cell ++ flat_map spaced_text cells

-- ---- as they are read

-- where the next cell begins: after a gap, where it is not the first
abbrev pub next_at : List Cell → List ℕ → ℕ → Result ℕ PredRefusal
next_at [] input place = Ok place
next_at (cell ∷ cells) input place = map_refusal of_piece (gap_at input place)

-- the cells of these columns after those that were read, and the place after them
unfoldable pub cells_from : List Cell → List Column → List ℕ → ℕ → Result (List Cell × ℕ) PredRefusal
cells_from read [] input place = Ok (read, place)
cells_from read (column ∷ columns) input place = do
  start ← next_at read input place
  cell ← cell_at column input start
  cells_from (read ++ cell.0 ∷ []) columns input cell.1

-- the cells of a row, and the place after them
abbrev pub cells_at : List Column → List ℕ → ℕ → Result (List Cell × ℕ) PredRefusal
cells_at columns input place = cells_from [] columns input place

-- the cells of a row that is the whole text
unfoldable pub cells_of : List Column → List ℕ → Result (List Cell) PredRefusal
cells_of columns text = do
  cells ← cells_at columns text 0
  _ ← map_refusal of_piece (end_at text cells.1)
  Ok cells.0
