-- The lines of the state at the start, of a row and of an entry that are printed are read as what they tell.
use Rattle.std.proofs.Common.{◌≡◌, ℕ, ◌+◌, ◌<◌, ℤ, true, codes, decimal, List, [], ◌∷◌, ◌++◌, length, drop, Option}
use Rattle.std.proofs.Common.{Some, None, Ok, IfSome, refl, sym, ap, ◌∙◌, arith, length-append}
use Rattle.std.specs.Fmt.{signed_decimal}
use Rattle.std.proofs.lemmas.Bool.{lt-ltb}
use Rattle.std.proofs.lemmas.List.{append-nil}
use Rattle.words.specs.Reading.{map_refusal}
use Rattle.row_types.specs.declared.column.Column.{Column}
use Rattle.history_types.specs.declared.entry.Entry.{Entry}
use Rattle.row_types.specs.declared.row.Row.{Row}
use Rattle.row_types.specs.Fits.{is_long, IsRow}
use Rattle.pieces.specs.Word.{spaces, gap_at}
use Rattle.pieces.specs.Number.{optional_text}
use Rattle.words.specs.Parts.{behind_is}
use Rattle.pieces.specs.WordLaws.{word_again, gap_again, end_again, no_space_at_end}
use Rattle.pieces.specs.Decimal.{is_long_or_none}
use Rattle.pieces.specs.NumberLaws.{no_digit_first, no_digit_at_end, unsigned_again, long_again, optional_long_again}
use Rattle.pieces.specs.NumberLaws.{unsigned_no_space, long_no_space, optional_no_space}
use Rattle.row_pred.specs.Cells.{cells_text}
use Rattle.row_pred.specs.CellsLaws.{cells_again, cells_no_space}
use Rattle.history_log.specs.Entry.{entry_text, entry_of}
use Rattle.report.specs.Refusal.{of_history}
use Rattle.report.specs.Start.{version_at, front_of, rest_of, without_rows, start_of}
use Rattle.report.specs.Rows.{row_numbers_of, row_cells_of, row_of}
use Rattle.report.specs.Printed.{start_text, row_text, FitsRow}

-- ---- a piece, and the space behind it

-- the space behind a piece is its gap
space_again : (piece input rest : List ℕ) (place : ℕ) → drop place input ≡ piece ++ 32 ∷ rest → spaces rest ≡ 0 → gap_at input (place + length piece) ≡ Ok (place + length piece + 1)
space_again piece input rest place e none = gap_again input rest (place + length piece) (behind_is input place piece (32 ∷ rest) e) none

-- what stands behind it
space_behind : (piece input rest : List ℕ) (place : ℕ) → drop place input ≡ piece ++ 32 ∷ rest → drop (place + length piece + 1) input ≡ rest
space_behind piece input rest place e = behind_is input (place + length piece) (32 ∷ []) rest (behind_is input place piece (32 ∷ rest) e)

-- a number that is there has 64 bits
pub long_or_none : (number : Option ℤ) → IfSome number (λ n. is_long n ≡ true) → is_long_or_none number ≡ true
long_or_none None fits = refl
long_or_none (Some number) fits = fits

-- ---- the state at the start

-- a version is read
version_again : (version : ℕ) (input rest : List ℕ) (place : ℕ) → version < 256 → drop place input ≡ decimal version ++ 32 ∷ rest → version_at input place ≡ Ok (version, place + length (decimal version))
version_again version input rest place fits e =
    rw (unsigned_again version input (32 ∷ rest) place (omega arith) e (no_digit_first 32 rest refl), lt-ltb version 256 fits) refl

-- the version is read at the front of the line
front_again : (version : ℕ) (rest : List ℕ) → version < 256 → spaces rest ≡ 0 → front_of (codes "start " ++ (decimal version ++ 32 ∷ rest)) ≡ Ok (version, 6 + length (decimal version) + 1)
front_again version rest fits none =
    let more = decimal version ++ 32 ∷ rest in
    let line = codes "start " ++ more in
    let word = word_again (codes "start") line (32 ∷ more) 0 refl in
    let gap = gap_again line more 5 refl (unsigned_no_space version (32 ∷ rest) (omega arith)) in
    let one = version_again version line rest 6 fits refl in
    let two = space_again (decimal version) line rest 6 refl none in
    rw (word, gap, one, two) refl

-- the sequence number and the next id are read behind it
rest_again : (seq : ℤ) (next : Option ℤ) (line : List ℕ) (place : ℕ) → is_long seq ≡ true
    → is_long_or_none next ≡ true → drop place line ≡ signed_decimal seq ++ 32 ∷ optional_text next
    → place + length (signed_decimal seq) + 1 + length (optional_text next) ≡ length line
    → rest_of line place ≡ Ok (seq, next)
rest_again seq next line place seq_fits next_fits e size =
    let after = place + length (signed_decimal seq) + 1 in
    let text = optional_text next in
    let one = long_again seq line (32 ∷ text) place seq_fits e (no_digit_first 32 text refl) in
    let none : spaces text ≡ 0 = ap spaces (sym (append-nil text)) ∙ optional_no_space next [] next_fits in
    let two = space_again (signed_decimal seq) line text place e none in
    let here : drop after line ≡ text ++ [] = space_behind (signed_decimal seq) line text place e ∙ sym (append-nil text) in
    let three = optional_long_again next line [] after next_fits here no_digit_at_end in
    let four = end_again line (after + length text) size in
    rw (one, two, three, four) refl

-- what is printed of the state at the start, without its rows, is read
pub start_again : (version : ℕ) (seq : ℤ) (next : Option ℤ) → version < 256 → is_long seq ≡ true → is_long_or_none next ≡ true → start_of (start_text version seq next) ≡ Ok (without_rows (version, seq, next))
unfolding start_of
start_again version seq next version_fits seq_fits next_fits =
    let rest = signed_decimal seq ++ 32 ∷ optional_text next in
    let line = start_text version seq next in
    let place = 6 + length (decimal version) + 1 in
    let one = front_again version rest version_fits (long_no_space seq (32 ∷ optional_text next) seq_fits) in
    let here : drop place line ≡ rest = space_behind (decimal version) line rest 6 refl in
    let size : place + length (signed_decimal seq) + 1 + length (optional_text next) ≡ length line = omega (arith, length-append (decimal version) (32 ∷ rest), length-append (signed_decimal seq) (32 ∷ optional_text next)) in
    let two = rest_again seq next line place seq_fits next_fits here size in
    rw (one, two) refl

-- ---- a row

-- the numbers of a row are read
row_numbers_again : (id : Option ℤ) (last : ℤ) (rest : List ℕ) → is_long_or_none id ≡ true → is_long last ≡ true → spaces rest ≡ 0
    → row_numbers_of (codes "row " ++ (optional_text id ++ 32 ∷ (signed_decimal last ++ 32 ∷ rest))) ≡ Ok (id, last, 4 + length (optional_text id) + 1 + length (signed_decimal last) + 1)
row_numbers_again id last rest id_fits last_fits none =
    let from_last = signed_decimal last ++ 32 ∷ rest in
    let from_id = optional_text id ++ 32 ∷ from_last in
    let line = codes "row " ++ from_id in
    let at_last = 4 + length (optional_text id) + 1 in
    let word = word_again (codes "row") line (32 ∷ from_id) 0 refl in
    let gap = gap_again line from_id 3 refl (optional_no_space id (32 ∷ from_last) id_fits) in
    let one = optional_long_again id line (32 ∷ from_last) 4 id_fits refl (no_digit_first 32 from_last refl) in
    let two = space_again (optional_text id) line from_last 4 refl (long_no_space last (32 ∷ rest) last_fits) in
    let here : drop at_last line ≡ from_last = space_behind (optional_text id) line from_last 4 refl in
    let three = long_again last line (32 ∷ rest) at_last last_fits here (no_digit_first 32 rest refl) in
    let four = space_again (signed_decimal last) line rest at_last here none in
    rw (word, gap, one, two, three, four) refl

-- the cells of a row are read, up to the end
row_cells_again : (columns : List Column) (row : Row) (line : List ℕ) (place : ℕ) → IsRow columns row.cells → drop place line ≡ cells_text row.cells → place + length (cells_text row.cells) ≡ length line → row_cells_of columns line place ≡ Ok row.cells
row_cells_again columns row line place is e size =
    let here : drop place line ≡ cells_text row.cells ++ [] = e ∙ sym (append-nil (cells_text row.cells)) in
    rw (cells_again columns row.cells line [] place is here refl, end_again line (place + length (cells_text row.cells)) size) refl

-- what is printed of a row is read as it
pub row_again : (columns : List Column) (row : Row) → FitsRow columns row → row_of columns (row_text row) ≡ Ok row
unfolding row_of
row_again columns row fits =
    let cells = cells_text row.cells in
    let last = signed_decimal row.last in
    let line = row_text row in
    let at_last = 4 + length (optional_text row.id) + 1 in
    let place = at_last + length last + 1 in
    let none : spaces cells ≡ 0 = ap spaces (sym (append-nil cells)) ∙ cells_no_space columns row.cells [] fits.cells.0 no_space_at_end in
    let one = row_numbers_again row.id row.last cells (long_or_none row.id fits.id) fits.last none in
    let at_cells : drop place line ≡ cells = space_behind last line cells at_last (space_behind (optional_text row.id) line (last ++ 32 ∷ cells) 4 refl) in
    let size : place + length cells ≡ length line = omega (arith, length-append (optional_text row.id) (32 ∷ (last ++ 32 ∷ cells)), length-append last (32 ∷ cells)) in
    let two = row_cells_again columns row line place fits.cells at_cells size in
    rw (one, two) refl

-- ---- an entry

-- an entry that is read is read in its line
pub entry_again : (columns : List Column) (entry : Entry) → entry_of columns (entry_text entry) ≡ Ok entry
    → map_refusal of_history (entry_of columns (entry_text entry)) ≡ Ok entry
entry_again columns entry read = rw read refl
