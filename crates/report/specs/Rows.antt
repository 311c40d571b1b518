-- The line of a row: its id, or a minus sign, its last change, and its cells.
use Rattle.std.specs.Prelude.{ℕ, ℤ, List, [], ◌∷◌, ◌++◌, Option, Some, None, Result, Ok, Err, codes}
use Rattle.words.specs.Reading.{◌>>=◌, map_refusal}
use Rattle.row_types.specs.declared.cell.Cell.{Cell}
use Rattle.row_types.specs.declared.column.Column.{Column}
use Rattle.row_types.specs.declared.row.Row.{Row}
use Rattle.history_types.specs.declared.state.State.{State}
use Rattle.row_types.specs.RowMap.{UnnamedRow, row_at, with_row}
use Rattle.pieces.specs.declared.refusal.PieceRefusal.{PieceRefusal}
use Rattle.pieces.specs.Word.{gap_at, end_at}
use Rattle.pieces.specs.Number.{long_at, optional_long_at}
use Rattle.row_pred.specs.Cells.{cells_at}
use Rattle.report.specs.declared.refusal.LineRefusal.{LineRefusal}
use Rattle.report.specs.declared.refusal.LineRefusal.TheVariants.{Wrong}
use Rattle.report.specs.Refusal.{of_piece, of_cells}
use Rattle.report.specs.Start.{word_and_gap}

-- the id and the last change of the line, and where the cells begin
abbrev pub row_numbers_of : List ℕ → Result (Option ℤ × ℤ × ℕ) PieceRefusal
row_numbers_of line =
    word_and_gap (codes "row") line >>= λ start. optional_long_at line start
    >>= λ id. gap_at line id.1 >>= λ start. long_at line start
    >>= λ last. gap_at line last.1 >>= λ start. Ok (id.0, last.0, start)

-- the cells of the line, which end it
abbrev pub row_cells_of : List Column → List ℕ → ℕ → Result (List Cell) LineRefusal
row_cells_of columns line start =
    map_refusal of_cells (cells_at columns line start) >>= λ cells.
    map_refusal of_piece (end_at line cells.1) >>= λ done. Ok cells.0

-- a row of these numbers and cells
abbrev pub row_with : Option ℤ × ℤ × ℕ → List Cell → Row
row_with (id, last, start) cells = record { id = id; last = last; cells = cells }

-- the row of the line
unfoldable pub row_of : List Column → List ℕ → Result Row LineRefusal
row_of columns line =
    map_refusal of_piece (row_numbers_of line) >>= λ numbers.
    row_cells_of columns line numbers.2 >>= λ cells. Ok (row_with numbers cells)

-- a row at its id, where no row has it
abbrev pub put_at : State → ℤ → UnnamedRow → Option UnnamedRow → Result State LineRefusal
put_at state id row None = Ok (record {
  version = state.version;
  unnamed = state.unnamed;
  rows = with_row state.rows id row;
  next = state.next;
  seq = state.seq;
})
put_at state id row (Some other) = Err Wrong

-- the row joins the state: at its id, or behind the rows without one
abbrev pub joined : State → Row → Option ℤ → Result State LineRefusal
joined state row None = Ok (record {
  version = state.version;
  unnamed = state.unnamed ++ (row.last, row.cells) ∷ [];
  rows = state.rows;
  next = state.next;
  seq = state.seq;
})
joined state row (Some id) = put_at state id (row.last, row.cells) (row_at state.rows id)
