-- What is read of a request fits the columns.
use Rattle.std.proofs.Common.{◌≡◌, ◌≢◌, ℕ, zero, suc, ◌+◌, ◌-◌, ◌<◌, false, List, [], ◌∷◌, ◌++◌, length, get_or, All}
use Rattle.std.proofs.Common.{AllPairs, Option, Some, None, Ok, IfOk, inl, inr, sym, ◌∙◌, arith}
use Rattle.std.specs.Str.{bytes_eq}
use Rattle.std.proofs.lemmas.Bool.{cases_lt, false≢true}
use Rattle.std.proofs.lemmas.List.{get_or_append_left, get_or_at, length-append}
use Rattle.std.proofs.lemmas.List.Elements.{All-append, All-cons}
use Rattle.std.proofs.lemmas.List.Folds.{list_any_at}
use Rattle.std.proofs.lemmas.Result.{IfOk-weaker}
use Rattle.std.proofs.lemmas.Slice.Eq.{bytes_eq-Decides}
use Rattle.words.specs.Reading.{◌>>=◌, map_refusal, map_value}
use Rattle.row_types.specs.declared.cell.Cell.{Cell}
use Rattle.row_types.specs.declared.column.Column.{Column}
use Rattle.history_types.specs.declared.request.Request.TheVariants.{Append, Compact, Upgrade}
use Rattle.row_types.specs.Fits.{IsRow}
use Rattle.history_types.specs.Fits.{FitsRequest}
use Rattle.pieces.specs.declared.refusal.PieceRefusal.TheVariants.{Syntax}
use Rattle.pieces.specs.Word.{one_of, gap_at, mark_at, end_at}
use Rattle.pieces.specs.Literal.{literal_at}
use Rattle.pieces.specs.Many.{many}
use Rattle.pieces.specs.ManyLaws.{many_keep, many_some}
use Rattle.words.specs.Holds.{if_any, if_viewed, if_renamed, if_then, if_failed}
use Rattle.row_pred.specs.Cells.{cells_at}
use Rattle.row_pred.specs.FitLaws.{cells_fit}
use Rattle.history_log.specs.Refusal.{of_piece, of_cells}
use Rattle.history_log.specs.Request.{request_words, or_end, row_at, rows_at, is_repeated, new_path, path_at}
use Rattle.history_log.specs.Request.{paths_at, paths_or_end, request_behind, request_at}

-- ---- rows

-- rows of the columns, at least one
abbrev AreRows : List Column → List (List Cell) → Type 0
AreRows columns rows = (rows ≢ []) × All (IsRow columns) rows

-- a list with an item at its end is not empty
not_empty : {X : Type 0} (xs : List X) (x : X) → (xs ++ x ∷ []) ≢ []
not_empty [] x e = absurd cc
not_empty (first ∷ xs) x e = absurd cc

-- what holds of one holds of it alone
all_of_one : {X : Type 0} (P : X → Type 0) (x : X) → P x → All P (x ∷ [])
all_of_one P x h = All-cons P x [] h (λ i d inside. absurd (omega arith))

-- one more row
row_more : (columns : List Column) (rows : List (List Cell)) (row : List Cell) → All (IsRow columns) rows → IsRow columns row → AreRows columns (rows ++ row ∷ [])
row_more columns rows row all is = (not_empty rows row, All-append (IsRow columns) rows (row ∷ []) all (all_of_one (IsRow columns) row is))

-- a row behind others
row_fits : (columns : List Column) (input : List ℕ) (rows : List (List Cell)) (place : ℕ) → All (IsRow columns) rows → IfOk (row_at columns input rows place) (λ row. AreRows columns (rows ++ row.0 ∷ []))
row_fits columns input rows place all =
    if_renamed (λ (row : List Cell × ℕ). AreRows columns (rows ++ row.0 ∷ [])) of_cells (cells_at columns input place)
    (IfOk-weaker (cells_at columns input place) (λ row. IsRow columns row.0) (λ row. AreRows columns (rows ++ row.0 ∷ [])) (λ row is. row_more columns rows row.0 all is) (cells_fit columns input place))

-- all rows
rows_fit : (columns : List Column) (input : List ℕ) (place : ℕ) → IfOk (rows_at columns input place) (AreRows columns)
rows_fit columns input place =
    if_viewed (AreRows columns) (λ (read : List (List Cell) × ℕ). read.0) (many (row_at columns input) (or_end (mark_at 59) input) (length input + 1) [] place)
    (many_some (row_at columns input) (or_end (mark_at 59) input) (AreRows columns) (length input) place
    (λ at. row_fits columns input [] at (λ i d inside. absurd (omega arith))) (λ rows at are. row_fits columns input rows at are.1))

-- ---- paths

-- distinct paths
abbrev AreDistinct : List (List ℕ) → Type 0
AreDistinct paths = AllPairs (λ a b. a ≢ b) paths

-- one more path, which is new
path_more : (paths : List (List ℕ)) (path : List ℕ) → AreDistinct paths → is_repeated paths path ≡ false → AreDistinct (paths ++ path ∷ [])
path_more paths path distinct new = λ i j d before within equal.
    elim (cases_lt j (length paths)) [
      | inl inside ↦ distinct i j d before inside (sym (get_or_append_left paths (path ∷ []) d i (omega arith)) ∙ (equal ∙ get_or_append_left paths (path ∷ []) d j inside))
      | inr past ↦
          let end : length paths ≡ j = omega (arith, length-append paths (path ∷ [])) in
          let last : get_or (paths ++ path ∷ []) j d ≡ path = get_or_at paths path [] d j end in
          let there : i < length paths = omega arith in
          let same : get_or paths i d ≡ path = sym (get_or_append_left paths (path ∷ []) d i there) ∙ (equal ∙ last) in
          false≢true (sym new ∙ list_any_at (λ (other : List ℕ). bytes_eq other path) paths i d there ((bytes_eq-Decides (get_or paths i d) path).1 same))
    ]

-- a path behind others
path_fits : (input : List ℕ) (paths : List (List ℕ)) (place : ℕ) → AreDistinct paths → IfOk (path_at input paths place) (λ path. AreDistinct (paths ++ path.0 ∷ []))
path_fits input paths place distinct =
    if_renamed (λ (path : List ℕ × ℕ). AreDistinct (paths ++ path.0 ∷ [])) of_piece (literal_at input place >>= λ literal. new_path paths literal)
    (if_then (λ _. Unit {0}) (λ (path : List ℕ × ℕ). AreDistinct (paths ++ path.0 ∷ [])) (literal_at input place) (λ literal. new_path paths literal) (if_any (literal_at input place)) (λ literal _.
    if_failed (λ (path : List ℕ × ℕ). AreDistinct (paths ++ path.0 ∷ [])) (is_repeated paths literal.0) literal (Syntax (literal.1 - 1)) (path_more paths literal.0 distinct)))

-- no path is not distinct
none_distinct : AreDistinct []
none_distinct = λ i j d before within. absurd (omega arith)

-- all paths
paths_fit : (input : List ℕ) (place : ℕ) → IfOk (paths_at input place) AreDistinct
paths_fit input place =
    if_viewed AreDistinct (λ (read : List (List ℕ) × ℕ). read.0) (many (path_at input) (or_end gap_at input) (length input + 1) [] place)
    (many_keep (path_at input) (or_end gap_at input) AreDistinct (length input + 1) [] place (λ paths at distinct. path_fits input paths at distinct) none_distinct)

-- or none
paths_or_end_fit : (input : List ℕ) (next : Option ℕ) → IfOk (paths_or_end input next) AreDistinct
paths_or_end_fit input None = none_distinct
paths_or_end_fit input (Some start) = paths_fit input start

-- ---- the request

-- what follows the word
behind_fits : (columns : List Column) (input : List ℕ) (word : ℕ × ℕ) → IfOk (request_behind columns input word) (FitsRequest columns)
behind_fits columns input (zero, place) =
    if_then (λ _. Unit {0}) (FitsRequest columns) (map_refusal of_piece (gap_at input place)) (λ start. map_value Append (rows_at columns input start)) (if_any _) (λ start _.
    if_viewed (FitsRequest columns) Append (rows_at columns input start) (rows_fit columns input start))
behind_fits columns input (suc zero, place) =
    if_then (λ _. Unit {0}) (FitsRequest columns) (or_end gap_at input place) (λ next. map_value Compact (paths_or_end input next)) (if_any _) (λ next _.
    if_viewed (FitsRequest columns) Compact (paths_or_end input next) (paths_or_end_fit input next))
behind_fits columns input (suc (suc index), place) =
    if_then (λ _. Unit {0}) (FitsRequest columns) (map_refusal of_piece (end_at input place)) (λ done. Ok Upgrade) (if_any _) (λ done _. tt)

-- what is read as a request is about a table of these columns
pub request_fits : (columns : List Column) (input : List ℕ) (place : ℕ) → IfOk (request_at columns input place) (FitsRequest columns)
unfolding request_at
request_fits columns input place =
    if_then (λ _. Unit {0}) (FitsRequest columns) (map_refusal of_piece (one_of request_words input place)) (λ word. request_behind columns input word) (if_any _) (λ word _. behind_fits columns input word)
