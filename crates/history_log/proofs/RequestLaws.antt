-- What is printed of a request is read as it.
use Rattle.std.proofs.Common.{◌≡◌, ◌≢◌, ℕ, suc, ◌+◌, ◌<◌, codes, true, false, List, [], ◌∷◌, ◌++◌, length, get_or}
use Rattle.std.proofs.Common.{drop, All, AllPairs, Some, None, Result, Ok, refl, sym, ap, subst, ◌∙◌, arith}
use Rattle.std.proofs.Common.{append_assoc, length-append}
use Rattle.std.specs.List.{flat_map}
use Rattle.std.specs.Str.{bytes_eq}
use Rattle.std.proofs.lemmas.Bool.{and_parts, false_from_ne_true, eq-eqb, ne_eqb}
use Rattle.std.proofs.lemmas.List.{drop-drop, length-drop, get_or_append_left, get_or_at}
use Rattle.std.proofs.lemmas.List.Elements.{All-head, All-tail}
use Rattle.std.proofs.lemmas.List.Folds.{list_any_none}
use Rattle.std.proofs.lemmas.Slice.Eq.{bytes_eq-Decides}
use Rattle.words.specs.Reading.{◌>>=◌}
use Rattle.row_types.specs.declared.cell.Cell.{Cell}
use Rattle.row_types.specs.declared.column.Column.{Column}
use Rattle.history_types.specs.declared.request.Request.{Request}
use Rattle.history_types.specs.declared.request.Request.TheVariants.{Append, Compact, Upgrade}
use Rattle.row_types.specs.Fits.{fits, fits_row, IsRow}
use Rattle.history_types.specs.Fits.{FitsRequest}
use Rattle.pieces.specs.declared.refusal.PieceRefusal.{PieceRefusal}
use Rattle.pieces.specs.Word.{spaces, after_spaces, byte_at, gap_at, mark_at}
use Rattle.pieces.specs.Literal.{literal_text}
use Rattle.words.specs.Parts.{behind_is}
use Rattle.pieces.specs.WordLaws.{byte_again, no_space_first, gap_again, mark_again, end_again}
use Rattle.pieces.specs.ChoiceLaws.{one_of_again}
use Rattle.pieces.specs.LiteralLaws.{literal_again}
use Rattle.cell_text.specs.Cell.{cell_text}
use Rattle.row_pred.specs.Cells.{spaced_text, cells_text, cells_from}
use Rattle.row_pred.specs.CellLaws.{cell_no_space}
use Rattle.row_pred.specs.CellsLaws.{cells_again}
use Rattle.history_log.specs.Request.{next_row_text, rows_text, next_path_text, request_text, request_words, or_end}
use Rattle.history_log.specs.Request.{rows_at, is_repeated, path_at, paths_at, request_behind, request_at, request_of}
use Rattle.history_log.proofs.RequestSteps.{RowsFrom, rows_start, rows_on, rows_done, PathsFrom, paths_start}
use Rattle.history_log.proofs.RequestSteps.{paths_on, paths_done}

-- ---- the end of the text, and what stands before it

-- a text that is left reaches to the end
left_size : (input text : List ℕ) (place : ℕ) → 0 < length text → drop place input ≡ text → place + length text ≡ length input
left_size input text place some e = omega (arith, ap length e, length-drop place input)

-- at the end nothing follows
none_next : (next : List ℕ → ℕ → Result ℕ PieceRefusal) (input : List ℕ) (place : ℕ) → place ≡ length input → or_end next input place ≡ Ok None
none_next next input place end = rw (eq-eqb place (length input) end) refl

-- before it something does
some_next : (next : List ℕ → ℕ → Result ℕ PieceRefusal) (input : List ℕ) (place start : ℕ) → place < length input → next input place ≡ Ok start → or_end next input place ≡ Ok (Some start)
some_next next input place start before read =
    let other : place ≢ length input = omega arith in
    rw (ne_eqb place (length input) other, read) refl

-- a gap that begins with a space is all spaces that stand there
gap_read : (input rest : List ℕ) (place : ℕ) → drop place input ≡ 32 ∷ rest → gap_at input place ≡ Ok (place + 1 + spaces rest)
unfolding spaces
gap_read input rest place e =
    let all : spaces (drop place input) ≡ suc (spaces rest) = ap spaces e in
    let size : place + suc (spaces rest) ≡ place + 1 + spaces rest = omega arith in
    let some : suc (spaces rest) ≢ 0 = omega arith in
    rw (all, ne_eqb (suc (spaces rest)) 0 some) (ap Ok size)

-- ---- paths

-- no path stood before it
abbrev Fresh : List (List ℕ) → List (List ℕ) → Type 0
Fresh read [] = Unit {0}
Fresh read (path ∷ paths) = (is_repeated read path ≡ false) × Fresh (read ++ path ∷ []) paths

-- a path that is distinct from those before it is none of them
is_new : (read paths : List (List ℕ)) (path : List ℕ) → AllPairs (λ a b. a ≢ b) (read ++ path ∷ paths) → is_repeated read path ≡ false
is_new read paths path distinct =
    list_any_none (λ (other : List ℕ). bytes_eq other path) read (λ k d inside. false_from_ne_true _ (λ same.
    let equal : get_or read k d ≡ path = (bytes_eq-Decides (get_or read k d) path).0 same in
    let within : length read < length (read ++ path ∷ paths) = omega (arith, length-append read (path ∷ paths)) in
    let front : get_or (read ++ path ∷ paths) k d ≡ get_or read k d = get_or_append_left read (path ∷ paths) d k inside in
    let last : get_or (read ++ path ∷ paths) (length read) d ≡ path = get_or_at read path paths d (length read) refl in
    distinct k (length read) d inside within (front ∙ (equal ∙ sym last))))

-- distinct paths are new, one by one
all_new : (read paths : List (List ℕ)) → AllPairs (λ a b. a ≢ b) (read ++ paths) → Fresh read paths
all_new read [] distinct = tt
all_new read (path ∷ paths) distinct =
    (is_new read paths path distinct, all_new (read ++ path ∷ []) paths (subst (λ (xs : List (List ℕ)). AllPairs (λ a b. a ≢ b) xs) (sym (append_assoc read (path ∷ []) paths)) distinct))

-- a path that is printed is read
path_again : (read : List (List ℕ)) (path input rest : List ℕ) (place : ℕ) → is_repeated read path ≡ false → drop place input ≡ literal_text path ++ rest → path_at input read place ≡ Ok (path, place + length (literal_text path))
path_again read path input rest place fresh e = rw (literal_again path input rest place e, fresh) refl

-- so are paths, up to the end
paths_again : (paths : List (List ℕ)) (path : List ℕ) (read : List (List ℕ)) (input : List ℕ) (place at : ℕ) → PathsFrom input place read at → Fresh read (path ∷ paths) → drop at input ≡ literal_text path ++ flat_map next_path_text paths
    → paths_at input place ≡ Ok (read ++ path ∷ paths)
paths_again [] path read input place at from fresh e =
    let size = left_size input (literal_text path ++ []) at (omega arith) e in
    let after = at + length (literal_text path) in
    let end : after ≡ length input = omega (arith, length-append (literal_text path) []) in
    paths_done input place read path at after from (omega arith) (path_again read path input [] at fresh.0 e) (none_next gap_at input after end)
paths_again (other ∷ paths) path read input place at from fresh e =
    let more = literal_text other ++ flat_map next_path_text paths in
    let after = at + length (literal_text path) in
    let size = left_size input (literal_text path ++ 32 ∷ more) at (omega arith) e in
    let parts = length-append (literal_text path) (32 ∷ more) in
    let next : drop after input ≡ 32 ∷ more = behind_is input at (literal_text path) (32 ∷ more) e in
    let none : spaces more ≡ 0 = let quote : 34 ≢ 32 = omega arith in no_space_first 34 _ quote in
    let gap : gap_at input after ≡ Ok (after + 1) = gap_read input more after next ∙ ap (λ (n : ℕ). Ok n) (omega arith) in
    let here : drop (after + 1) input ≡ more = behind_is input after (32 ∷ []) more next in
    let on = paths_on input place read path at after (after + 1) from (omega arith) (path_again read path input (32 ∷ more) at fresh.0 e) (some_next gap_at input after (after + 1) (omega arith) gap) (omega arith) in
    paths_again paths other (read ++ path ∷ []) input place (after + 1) on fresh.1 here ∙ ap Ok (append_assoc read (path ∷ []) (other ∷ paths))

-- ---- rows of cells

-- no row begins with a space
row_no_space : (column : Column) (columns : List Column) (row : List Cell) (rest : List ℕ) → fits_row (column ∷ columns) row ≡ true → spaces (cells_text row ++ rest) ≡ 0
unfolding fits_row
row_no_space column columns [] rest fit = cc
row_no_space column columns (cell ∷ cells) rest fit =
    let parts = and_parts (fits column cell) (fits_row columns cells) fit in
    rw (append_assoc (cell_text cell) (flat_map spaced_text cells) rest) (cell_no_space column cell (flat_map spaced_text cells ++ rest) parts.0)

-- rows that are printed are read, up to the end
rows_again : (rows : List (List Cell)) (row : List Cell) (read : List (List Cell)) (column : Column) (columns : List Column) (input : List ℕ) (place at : ℕ) → RowsFrom (column ∷ columns) input place read at → IsRow (column ∷ columns) row → All (IsRow (column ∷ columns)) rows
    → drop at input ≡ cells_text row ++ flat_map next_row_text rows → at + length (cells_text row ++ flat_map next_row_text rows) ≡ length input → rows_at (column ∷ columns) input place ≡ Ok (read ++ row ∷ rows)
rows_again [] row read column columns input place at from is all e size =
    let after = at + length (cells_text row) in
    let end : after ≡ length input = omega (arith, length-append (cells_text row) []) in
    rows_done (column ∷ columns) input place read row at after from (omega arith) (cells_again (column ∷ columns) row input [] at is e refl) (none_next (mark_at 59) input after end)
rows_again (other ∷ rows) row read column columns input place at from is all e size =
    let more = cells_text other ++ flat_map next_row_text rows in
    let after = at + length (cells_text row) in
    let is_other = All-head (IsRow (column ∷ columns)) other rows all in
    let parts : length (cells_text row ++ 32 ∷ 59 ∷ 32 ∷ more) ≡ length (cells_text row) + suc (suc (suc (length more))) = length-append (cells_text row) (32 ∷ 59 ∷ 32 ∷ more) in
    let whole : at + length (cells_text row ++ 32 ∷ 59 ∷ 32 ∷ more) ≡ length input = size in
    let next : drop after input ≡ 32 ∷ 59 ∷ 32 ∷ more = behind_is input at (cells_text row) (32 ∷ 59 ∷ 32 ∷ more) e in
    let other_mark : 59 ≢ 32 = omega arith in
    let mark = mark_again 59 input more after next other_mark (row_no_space column columns other (flat_map next_row_text rows) is_other.0) in
    let here : drop (after + 3) input ≡ more = behind_is input after (32 ∷ 59 ∷ 32 ∷ []) more next in
    let on = rows_on (column ∷ columns) input place read row at after (after + 3) from (omega arith) (cells_again (column ∷ columns) row input (32 ∷ 59 ∷ 32 ∷ more) at is e refl) (some_next (mark_at 59) input after (after + 3) (omega arith) mark) (omega arith) in
    rows_again rows other (read ++ row ∷ []) column columns input place (after + 3) on is_other (All-tail (IsRow (column ∷ columns)) other rows all) here (omega arith) ∙ ap Ok (append_assoc read (row ∷ []) (other ∷ rows))

-- ---- rows without cells

-- a row of a table without columns
no_cells : (row : List Cell) → IsRow [] row → row ≡ []
unfolding fits_row
no_cells [] is = refl
no_cells (cell ∷ cells) is = absurd cc

-- behind it stands at most one space before the mark
space_before : (rows : List (List Cell)) → drop (spaces (flat_map next_row_text rows)) (flat_map next_row_text rows) ≡ drop 1 (flat_map next_row_text rows)
unfolding spaces
space_before [] = refl
space_before (row ∷ rows) = refl

-- and what is left behind that space is the rest
space_size : (rows : List (List Cell)) → spaces (flat_map next_row_text rows) + length (drop 1 (flat_map next_row_text rows)) ≡ length (flat_map next_row_text rows)
unfolding spaces
space_size [] = refl
space_size (row ∷ rows) = omega arith

-- a mark, and the spaces behind it
mark_read : (input rest : List ℕ) (place : ℕ) → drop place input ≡ 59 ∷ 32 ∷ rest → mark_at 59 input place ≡ Ok (place + 2 + spaces rest)
unfolding spaces
mark_read input rest place e =
    let none : after_spaces input place ≡ place = ap (λ (l : List ℕ). place + spaces l) e ∙ omega arith in
    let next : drop (place + 1) input ≡ 32 ∷ rest = behind_is input place (59 ∷ []) (32 ∷ rest) e in
    let size : place + 1 + suc (spaces rest) ≡ place + 2 + spaces rest = omega arith in
    ap (λ (start : ℕ). byte_at 59 input start >>= λ after. Ok (after_spaces input after)) none
    ∙ (ap (λ (r : Result ℕ PieceRefusal). r >>= λ after. Ok (after_spaces input after)) (byte_again 59 input (32 ∷ rest) place e)
    ∙ (ap (λ (l : List ℕ). Ok (place + 1 + spaces l)) next ∙ ap Ok size))

-- what is left behind the space before a mark
abbrev left_of : List (List Cell) → List ℕ
left_of rows = drop 1 (flat_map next_row_text rows)

-- such rows are read, up to the end
empty_rows_again : (rows : List (List Cell)) (read : List (List Cell)) (input : List ℕ) (place at : ℕ) → RowsFrom [] input place read at → All (IsRow []) rows → drop at input ≡ left_of rows → at + length (left_of rows) ≡ length input → rows_at [] input place ≡ Ok (read ++ [] ∷ rows)
unfolding cells_from
empty_rows_again [] read input place at from all e size =
    rows_done [] input place read [] at at from (omega arith) refl (none_next (mark_at 59) input at (omega arith))
empty_rows_again (row ∷ rows) read input place at from all e size =
    let none : row ≡ [] = no_cells row (All-head (IsRow []) row rows all) in
    let others = flat_map next_row_text rows in
    let this : left_of (row ∷ rows) ≡ 59 ∷ 32 ∷ others = ap (λ (cells : List Cell). left_of (cells ∷ rows)) none in
    let start = at + 2 + spaces others in
    let next = e ∙ this in
    let whole = ap length this in
    let behind_mark : drop (at + 2) input ≡ others = behind_is input at (59 ∷ 32 ∷ []) others next in
    let here : drop start input ≡ left_of rows = sym (drop-drop (spaces others) (at + 2) input) ∙ (ap (drop (spaces others)) behind_mark ∙ space_before rows) in
    let parts = space_size rows in
    let on = rows_on [] input place read [] at at start from (omega arith) refl (some_next (mark_at 59) input at start (omega arith) (mark_read input others at next)) (omega arith) in
    let rest = empty_rows_again rows (read ++ [] ∷ []) input place start on (All-tail (IsRow []) row rows all) here (omega arith) in
    rest ∙ ap Ok (append_assoc read ([] ∷ []) ([] ∷ rows) ∙ ap (λ (cells : List Cell). read ++ [] ∷ cells ∷ rows) (sym none))

-- ---- requests

-- the rows of an append, behind its word
append_again : (columns : List Column) (row : List Cell) (rows : List (List Cell)) (input : List ℕ) (place : ℕ) → All (IsRow columns) (row ∷ rows) → drop place input ≡ 32 ∷ rows_text (row ∷ rows) → request_behind columns input (0, place) ≡ Ok (Append (row ∷ rows))
append_again [] row rows input place all e =
    let none : row ≡ [] = no_cells row (All-head (IsRow []) row rows all) in
    let others = flat_map next_row_text rows in
    let this : drop place input ≡ 32 ∷ others = e ∙ ap (λ (cells : List Cell). 32 ∷ rows_text (cells ∷ rows)) none in
    let start = place + 1 + spaces others in
    let behind_space : drop (place + 1) input ≡ others = behind_is input place (32 ∷ []) others this in
    let here : drop start input ≡ left_of rows = sym (drop-drop (spaces others) (place + 1) input) ∙ (ap (drop (spaces others)) behind_space ∙ space_before rows) in
    let whole = left_size input (32 ∷ others) place (omega arith) this in
    let parts = space_size rows in
    let read = empty_rows_again rows [] input start start (rows_start [] input start) (All-tail (IsRow []) row rows all) here (omega arith) in
    rw (gap_read input others place this, read) (ap (λ (cells : List Cell). Ok (Append (cells ∷ rows))) (sym none))
append_again (column ∷ columns) row rows input place all e =
    let text = rows_text (row ∷ rows) in
    let is = All-head (IsRow (column ∷ columns)) row rows all in
    let gap = gap_again input text place e (row_no_space column columns row (flat_map next_row_text rows) is.0) in
    let here : drop (place + 1) input ≡ text = behind_is input place (32 ∷ []) text e in
    let whole = left_size input (32 ∷ text) place (omega arith) e in
    let read = rows_again rows row [] column columns input (place + 1) (place + 1) (rows_start (column ∷ columns) input (place + 1)) is (All-tail (IsRow (column ∷ columns)) row rows all) here (omega arith) in
    rw (gap, read) refl

-- the paths of a compaction, behind its word
compact_again : (columns : List Column) (paths : List (List ℕ)) (input : List ℕ) (place : ℕ)
    → AllPairs (λ a b. a ≢ b) paths → drop place input ≡ flat_map next_path_text paths
    → place + length (flat_map next_path_text paths) ≡ length input
    → request_behind columns input (1, place) ≡ Ok (Compact paths)
compact_again columns [] input place distinct e size = rw (none_next gap_at input place (omega arith)) refl
compact_again columns (path ∷ paths) input place distinct e size =
    let text = literal_text path ++ flat_map next_path_text paths in
    let next : drop place input ≡ 32 ∷ text = e in
    let quote : 34 ≢ 32 = omega arith in
    let gap : gap_at input place ≡ Ok (place + 1) = gap_again input text place next (no_space_first 34 _ quote) in
    let here : drop (place + 1) input ≡ text = behind_is input place (32 ∷ []) text next in
    let whole : place + suc (length text) ≡ length input = size in
    let read = paths_again paths path [] input (place + 1) (place + 1) (paths_start input (place + 1)) (all_new [] (path ∷ paths) distinct) here in
    rw (some_next gap_at input place (place + 1) (omega arith) gap, read) refl

-- a request that is printed is read
pub request_again : (columns : List Column) (request : Request) (input : List ℕ) (place : ℕ) → FitsRequest columns request → drop place input ≡ request_text request → request_at columns input place ≡ Ok request
unfolding request_at
request_again columns (Append []) input place fit e = absurd (fit.0 refl)
request_again columns (Append (row ∷ rows)) input place fit e =
    let text = 32 ∷ rows_text (row ∷ rows) in
    let word = one_of_again request_words 0 (codes "append") input text place refl refl e in
    let next : drop (place + 6) input ≡ text = behind_is input place (codes "append") text e in
    rw word (append_again columns row rows input (place + 6) fit.1 next)
request_again columns (Compact paths) input place fit e =
    let text = flat_map next_path_text paths in
    let word = one_of_again request_words 1 (codes "compact") input text place refl refl e in
    let next : drop (place + 7) input ≡ text = behind_is input place (codes "compact") text e in
    let whole = left_size input (codes "compact" ++ text) place (omega arith) e in
    rw word (compact_again columns paths input (place + 7) fit next (omega arith))
request_again columns Upgrade input place fit e =
    let word = one_of_again request_words 2 (codes "upgrade") input [] place refl refl e in
    let whole = left_size input (codes "upgrade") place (omega arith) e in
    rw (word, end_again input (place + 7) (omega arith)) refl

-- so it is where it is the whole text
pub text_again : (columns : List Column) (request : Request) (text : List ℕ) → text ≡ request_text request → FitsRequest columns request → request_of columns text ≡ Ok request
text_again columns request text is fit = request_again columns request text 0 fit is
