-- Laws of the cells of a row: printed cells are read, if no digit follows them.
use Rattle.std.proofs.Common.{◌≡◌, ℕ, ◌+◌, true, List, [], ◌∷◌, ◌++◌, length, drop, Ok, refl, sym, ap, ◌∙◌, arith}
use Rattle.std.proofs.Common.{append_assoc, length-append}
use Rattle.std.specs.List.{flat_map, list_all}
use Rattle.std.proofs.lemmas.Bool.{and_parts}
use Rattle.std.proofs.lemmas.List.{append-nil}
use Rattle.row_types.specs.declared.cell.Cell.{Cell}
use Rattle.row_types.specs.declared.column.Column.{Column}
use Rattle.row_types.specs.Fits.{fits, fits_row, has_real_bytes, IsRow}
use Rattle.words.specs.Parts.{behind_is}
use Rattle.pieces.specs.WordLaws.{gap_again, end_again}
use Rattle.pieces.specs.Word.{spaces}
use Rattle.cell_text.specs.Cell.{cell_text}
use Rattle.row_pred.specs.Cells.{spaced_text, cells_text, cells_from, cells_at, cells_of}
use Rattle.row_pred.specs.CellLaws.{stops, cell_again, cell_no_space}

-- no cell goes on with other cells after it
others_stop : (cells : List Cell) (rest : List ℕ) → stops rest ≡ true
    → stops (flat_map spaced_text cells ++ rest) ≡ true
others_stop [] rest s = s
others_stop (cell ∷ cells) rest s = refl

-- the cells after those that were read, of which there are some
others_again : (first : Cell) (read : List Cell) (columns : List Column) (cells : List Cell) (input rest : List ℕ)
    (place : ℕ) → fits_row columns cells ≡ true → list_all has_real_bytes cells ≡ true
    → drop place input ≡ flat_map spaced_text cells ++ rest → stops rest ≡ true
    → cells_from (first ∷ read) columns input place
    ≡ Ok (first ∷ read ++ cells, place + length (flat_map spaced_text cells))
unfolding cells_from fits_row
others_again first read [] [] input rest place fit real e s =
    let none : place + 0 ≡ place = omega arith in
    rw (append-nil read, none) refl
others_again first read [] (cell ∷ cells) input rest place fit real e s = cc
others_again first read (column ∷ columns) [] input rest place fit real e s = cc
others_again first read (column ∷ columns) (cell ∷ cells) input rest place fit real e s =
    let fit_parts = and_parts (fits column cell) (fits_row columns cells) fit in
    let real_parts = and_parts (has_real_bytes cell) (list_all has_real_bytes cells) real in
    let more = flat_map spaced_text cells ++ rest in
    let whole : drop place input ≡ 32 ∷ (cell_text cell ++ more) =
    e ∙ ap (λ (l : List ℕ). 32 ∷ l) (append_assoc (cell_text cell) (flat_map spaced_text cells) rest) in
    let gap = gap_again input (cell_text cell ++ more) place whole (cell_no_space column cell more fit_parts.0) in
    let here : drop (place + 1) input ≡ cell_text cell ++ more =
    behind_is input place (32 ∷ []) (cell_text cell ++ more) whole in
    let one = cell_again column cell input more (place + 1) fit_parts.0 real_parts.0 here (others_stop cells rest s) in
    let next : drop (place + 1 + length (cell_text cell)) input ≡ more =
    behind_is input (place + 1) (cell_text cell) more here in
    let others = others_again first (read ++ cell ∷ []) columns cells input rest (place + 1 + length (cell_text cell))
    fit_parts.1 real_parts.1 next s in
    let size : place + length (flat_map spaced_text (cell ∷ cells)) ≡ place + 1 + length (cell_text cell) + length
    (flat_map spaced_text cells) = omega (arith, length-append (cell_text cell) (flat_map spaced_text cells)) in
    rw (gap, one, others, append_assoc read (cell ∷ []) cells, size) refl

-- the printed cells of a row are read
pub cells_again : (columns : List Column) (cells : List Cell) (input rest : List ℕ) (place : ℕ) → IsRow columns cells
    → drop place input ≡ cells_text cells ++ rest → stops rest ≡ true
    → cells_at columns input place ≡ Ok (cells, place + length (cells_text cells))
unfolding cells_from fits_row
cells_again [] [] input rest place row e s =
    let none : place + 0 ≡ place = omega arith in
    rw none refl
cells_again [] (cell ∷ cells) input rest place row e s = cc
cells_again (column ∷ columns) [] input rest place row e s = cc
cells_again (column ∷ columns) (cell ∷ cells) input rest place row e s =
    let fit_parts = and_parts (fits column cell) (fits_row columns cells) row.0 in
    let real_parts = and_parts (has_real_bytes cell) (list_all has_real_bytes cells) row.1 in
    let more = flat_map spaced_text cells ++ rest in
    let here : drop place input ≡ cell_text cell ++ more =
    e ∙ append_assoc (cell_text cell) (flat_map spaced_text cells) rest in
    let one = cell_again column cell input more place fit_parts.0 real_parts.0 here (others_stop cells rest s) in
    let next : drop (place + length (cell_text cell)) input ≡ more = behind_is input place (cell_text cell) more here in
    let others = others_again cell [] columns cells input rest (place + length (cell_text cell))
    fit_parts.1 real_parts.1 next s in
    let size : place + length (cells_text (cell ∷ cells)) ≡ place + length (cell_text cell) + length
    (flat_map spaced_text cells) = omega (arith, length-append (cell_text cell) (flat_map spaced_text cells)) in
    rw (one, others, size) refl

-- no printed row begins with a space
pub cells_no_space : (columns : List Column) (cells : List Cell) (rest : List ℕ) → fits_row columns cells ≡ true
    → spaces rest ≡ 0 → spaces (cells_text cells ++ rest) ≡ 0
unfolding fits_row
cells_no_space columns [] rest fit none = none
cells_no_space [] (cell ∷ cells) rest fit none = cc
cells_no_space (column ∷ columns) (cell ∷ cells) rest fit none =
    let parts = and_parts (fits column cell) (fits_row columns cells) fit in
    rw (append_assoc (cell_text cell) (flat_map spaced_text cells) rest)
    (cell_no_space column cell (flat_map spaced_text cells ++ rest) parts.0)

-- a row that is the whole text is read
pub row_again : (columns : List Column) (cells : List Cell) → IsRow columns cells
    → cells_of columns (cells_text cells) ≡ Ok cells
unfolding cells_of
row_again columns cells row =
    let whole : drop 0 (cells_text cells) ≡ cells_text cells ++ [] = sym (append-nil (cells_text cells)) in
    let read = cells_again columns cells (cells_text cells) [] 0 row whole refl in
    let size : 0 + length (cells_text cells) ≡ length (cells_text cells) = omega arith in
    rw (read, end_again (cells_text cells) (0 + length (cells_text cells)) size) refl

-- so is a text that equals the printed row
pub text_again : (columns : List Column) (cells : List Cell) (text : List ℕ) → text ≡ cells_text cells
    → IsRow columns cells → cells_of columns text ≡ Ok cells
text_again columns cells text is row = ap (cells_of columns) is ∙ row_again columns cells row
