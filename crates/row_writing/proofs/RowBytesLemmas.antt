-- The cells of a row, put one by one, and then the numbers beside them.
use Rattle.std.proofs.Common.{◌≡◌, ℕ, suc, ◌+◌, ◌<◌, ◌≤◌, Bool, true, List, [], ◌∷◌, ◌++◌, length, get_or, take, drop, All}
use Rattle.std.proofs.Common.{refl, sym, ap, subst, ◌∙◌, append_assoc, arith}
use Rattle.std.proofs.lemmas.List.{drop_more, drop_all, take_all, append-nil}
use Rattle.std.proofs.lemmas.List.Elements.{All-more}
use Rattle.row_types.specs.declared.cell.Cell.{Cell}
use Rattle.row_types.specs.declared.column.Column.{Column}
use Rattle.row_types.specs.declared.row.StoredRow.{StoredRow}
use Rattle.row_types.specs.Fits.{fits as cell_fits, fits_row}
use Rattle.row_writing.specs.Writing.{kept}
use Rattle.row_writing.specs.RowBytes.{column_bytes, cells_bytes, lineage_bytes}
use Rattle.row_writing.specs.Written.{HasLongs, IsSizedCell, row_text, IsEncodedRow}
use Rattle.row_writing.proofs.WrittenRows.{both_true}
use Rattle.row_writing.proofs.WrittenBytes.{row_put}

-- a row that fits has as many cells as there are columns
as_many : (columns : List Column) (cells : List Cell) → fits_row columns cells ≡ true → length columns ≡ length cells
unfolding fits_row
as_many [] [] fit = refl
as_many [] (cell ∷ cells) fit = absurd cc
as_many (column ∷ columns) [] fit = absurd cc
as_many (column ∷ columns) (cell ∷ cells) fit = ap suc (as_many columns cells (both_true (cell_fits column cell) (fits_row columns cells) fit).1)

-- there is a cell for each column
pub cell_there : (columns : List Column) (cells : List Cell) (place : ℕ) → fits_row columns cells ≡ true → place < length columns → place < length cells
cell_there columns cells place fit within = omega (arith, as_many columns cells fit)

-- the bytes of the cells before the place stand behind what was there, those of the others are left, and the former are sized
pub record CellsArePut (columns : List Column) (cells : List Cell) (place : ℕ) (old new : List ℕ) : Type 0 where
  pub so_far : new ++ cells_bytes (drop place columns) (drop place cells) ≡ old ++ cells_bytes columns cells
  pub sized : All IsSizedCell (take place cells)

-- one cell more
pub cell_more : (columns : List Column) (cells : List Cell) (place : ℕ) (column : Column) (cell : Cell) (old between new : List ℕ) → fits_row columns cells ≡ true → place < length columns
    → cell ≡ get_or cells place cell → new ≡ between ++ column_bytes (get_or columns place column).required cell → IsSizedCell cell
    → CellsArePut columns cells place old between → CellsArePut columns cells (place + 1) old new
cell_more columns cells place column cell old between new fit within there more sized before =
    let inside : place < length cells = cell_there columns cells place fit within in
    record {
      so_far = rw (more, append_assoc between (column_bytes (get_or columns place column).required cell)) (rw (drop_more columns place column within, drop_more cells place cell inside, ← there) at before.so_far);
      sized = All-more IsSizedCell cells place cell inside before.sized (subst IsSizedCell there sized);
    }

-- no column is left, and so no cell
pub cells_end : (columns : List Column) (cells : List Cell) (place : ℕ) (old new : List ℕ) → fits_row columns cells ≡ true → length columns ≤ place → CellsArePut columns cells place old new
    → (new ≡ old ++ cells_bytes columns cells) × All IsSizedCell cells
cells_end columns cells place old new fit none before =
    let all : length cells ≤ place = omega (arith, as_many columns cells fit) in
    (sym (append-nil new) ∙ (rw (drop_all place columns none) at before.so_far), subst (All IsSizedCell) (take_all place cells all) before.sized)

-- what is put of a row is its text, and an encoding of its value
pub row_is_put : (columns : List Column) (lineage : Bool) (row : StoredRow) (cells : List Cell) (old between new : List ℕ) → fits_row columns row.cells ≡ true → cells ≡ row.cells → All IsSizedCell cells → HasLongs (kept lineage row)
    → between ≡ old ++ cells_bytes columns cells → new ≡ between ++ lineage_bytes lineage row → (new ≡ old ++ row_text columns lineage row) × IsEncodedRow columns lineage row
row_is_put columns lineage row cells old between new fit is sized longs first second =
    let put = row_put columns lineage row fit (subst (All IsSizedCell) is sized) longs in
    let behind : between ++ lineage_bytes lineage row ≡ (old ++ cells_bytes columns row.cells) ++ lineage_bytes lineage row = ap (λ (x : List ℕ). x ++ lineage_bytes lineage row) (first ∙ ap (λ (x : List Cell). old ++ cells_bytes columns x) is) in
    (second ∙ (behind ∙ (append_assoc old (cells_bytes columns row.cells) (lineage_bytes lineage row) ∙ ap (λ (x : List ℕ). old ++ x) (sym put.text))), put.encoded)
