-- The rows and the paths of requests, one by one.
use Rattle.std.proofs.Common.{◌≡◌, ℕ, ◌+◌, ◌<◌, ◌≤◌, ◌==◌, Bool, true, false, List, [], ◌∷◌, ◌++◌, length, drop}
use Rattle.std.proofs.Common.{Option, Some, None, Result, Ok, Err, inl, inr, refl, sym, ap, subst, ◌∙◌, arith}
use Rattle.std.specs.Bool.{OnFalse}
use Rattle.std.proofs.lemmas.Bool.{cases_Bool}
use Rattle.words.specs.Reading.{Gives, map_refusal, map_value}
use Rattle.words.specs.Laws.{refused_for_certain}
use Rattle.row_types.specs.declared.cell.Cell.{Cell}
use Rattle.row_types.specs.declared.column.Column.{Column}
use Rattle.history_types.specs.declared.request.Request.{Request}
use Rattle.pieces.specs.declared.refusal.PieceRefusal.{PieceRefusal}
use Rattle.pieces.specs.Word.{byte_at, one_of, gap_at, mark_at}
use Rattle.pieces.specs.Many.{many}
use Rattle.pieces.specs.Literal.{unescaped, is_never_raw, rest_at, literal_at}
use Rattle.pieces.specs.WordLaws.{byte_stands}
use Rattle.pieces.specs.ManyLaws.{ManyFrom, many_from_start, many_on, many_done, many_refused, many_stopped}
use Rattle.row_pred.specs.declared.refusal.PredRefusal.{PredRefusal}
use Rattle.row_pred.specs.declared.refusal.PredRefusal.TheVariants as cells
use Rattle.row_pred.specs.Refusal.{is_memory as is_memory_of_cells}
use Rattle.row_pred.specs.Cells.{cells_at}
use Rattle.history_log.specs.declared.refusal.HistoryRefusal.{HistoryRefusal}
use Rattle.history_log.specs.Refusal.{is_memory, of_piece, of_cells}
use Rattle.history_log.specs.Request.{request_words, or_end, row_at, rows_at, path_at, paths_at, request_behind}
use Rattle.history_log.specs.Request.{request_at}

-- ---- items to the end of the text

-- the items alone
abbrev pub items_of : {X : Type 0} → Result (List X × ℕ) HistoryRefusal → Result (List X) HistoryRefusal
items_of read = map_value (λ read. read.0) read

-- ---- rows

-- the rows from the first place on
abbrev pub rows_in : List Column → List ℕ → ℕ → Result (List (List Cell) × ℕ) HistoryRefusal
rows_in columns text place = many (row_at columns text) (or_end (mark_at 59) text) (length text + 1) [] place

-- reading rows on from here is reading all of them
abbrev pub RowsFrom : List Column → List ℕ → ℕ → List (List Cell) → ℕ → Type 0
RowsFrom columns text place rows at = ManyFrom (row_at columns text) (or_end (mark_at 59) text) (length text) rows at (rows_in columns text place)

-- the first row is still to come
pub rows_start : (columns : List Column) (text : List ℕ) (place : ℕ) → RowsFrom columns text place [] place
rows_start columns text place = many_from_start (row_at columns text) (or_end (mark_at 59) text) (length text) place

-- a row was read
row_read : (columns : List Column) (text : List ℕ) (rows : List (List Cell)) (row : List Cell) (at after : ℕ) → cells_at columns text at ≡ Ok (row, after) → row_at columns text rows at ≡ Ok (row, after)
row_read columns text rows row at after read = ap (map_refusal of_cells) read

-- it is not the last one
pub rows_on : (columns : List Column) (text : List ℕ) (place : ℕ) (rows : List (List Cell)) (row : List Cell)
    (at after start : ℕ) → RowsFrom columns text place rows at → at ≤ length text
    → cells_at columns text at ≡ Ok (row, after) → or_end (mark_at 59) text after ≡ Ok (Some start) → at < start
    → RowsFrom columns text place (rows ++ row ∷ []) start
rows_on columns text place rows row at after start from within read next further =
    many_on (row_at columns text) (or_end (mark_at 59) text) (length text) rows at (rows_in columns text place) row after start from within (row_read columns text rows row at after read) next further

-- it is the last one
pub rows_done : (columns : List Column) (text : List ℕ) (place : ℕ) (rows : List (List Cell)) (row : List Cell)
    (at after : ℕ) → RowsFrom columns text place rows at → at ≤ length text
    → cells_at columns text at ≡ Ok (row, after) → or_end (mark_at 59) text after ≡ Ok None
    → rows_at columns text place ≡ Ok (rows ++ row ∷ [])
rows_done columns text place rows row at after from within read next =
    ap items_of (many_done (row_at columns text) (or_end (mark_at 59) text) (length text) rows at (rows_in columns text place) row after from within (row_read columns text rows row at after read) next)

-- it does not end there
pub rows_stopped : (columns : List Column) (text : List ℕ) (place : ℕ) (rows : List (List Cell)) (row : List Cell)
    (at after : ℕ) (refusal : HistoryRefusal) → RowsFrom columns text place rows at → at ≤ length text
    → cells_at columns text at ≡ Ok (row, after) → or_end (mark_at 59) text after ≡ Err refusal
    → rows_at columns text place ≡ Err refusal
rows_stopped columns text place rows row at after refusal from within read next =
    ap items_of (many_stopped (row_at columns text) (or_end (mark_at 59) text) (length text) rows at (rows_in columns text place) row after refusal from within (row_read columns text rows row at after read) next)

-- the cells of the next row are refused
cells_refused : (columns : List Column) (text : List ℕ) (place : ℕ) (rows : List (List Cell)) (at : ℕ) (refusal : PredRefusal) → RowsFrom columns text place rows at → at ≤ length text → cells_at columns text at ≡ Err refusal → rows_at columns text place ≡ Err (of_cells refusal)
cells_refused columns text place rows at refusal from within refused =
    ap items_of (many_refused (row_at columns text) (or_end (mark_at 59) text) (length text) rows at (rows_in columns text place) (of_cells refusal) from within (ap (map_refusal of_cells) refused))

-- the same, where memory may have run out
pub rows_refused : (columns : List Column) (text : List ℕ) (place : ℕ) (rows : List (List Cell)) (at : ℕ)
    (refusal : PredRefusal) → RowsFrom columns text place rows at → at ≤ length text
    → OnFalse (is_memory_of_cells refusal) (cells_at columns text at ≡ Err refusal)
    → OnFalse (is_memory (of_cells refusal)) (rows_at columns text place ≡ Err (of_cells refusal))
rows_refused columns text place rows at cells.Memory from within refused = tt
rows_refused columns text place rows at (cells.Syntax p) from within refused = cells_refused columns text place rows at (cells.Syntax p) from within refused
rows_refused columns text place rows at (cells.Name n) from within refused = cells_refused columns text place rows at (cells.Name n) from within refused
rows_refused columns text place rows at (cells.Misfit p) from within refused = cells_refused columns text place rows at (cells.Misfit p) from within refused
rows_refused columns text place rows at (cells.NotNull c) from within refused = cells_refused columns text place rows at (cells.NotNull c) from within refused

-- ---- paths

-- the paths from the first place on
abbrev pub paths_in : List ℕ → ℕ → Result (List (List ℕ) × ℕ) HistoryRefusal
paths_in text place = many (path_at text) (or_end gap_at text) (length text + 1) [] place

-- reading paths on from here is reading all of them
abbrev pub PathsFrom : List ℕ → ℕ → List (List ℕ) → ℕ → Type 0
PathsFrom text place paths at = ManyFrom (path_at text) (or_end gap_at text) (length text) paths at (paths_in text place)

-- the first path is still to come
pub paths_start : (text : List ℕ) (place : ℕ) → PathsFrom text place [] place
paths_start text place = many_from_start (path_at text) (or_end gap_at text) (length text) place

-- a path was read, and it is not the last one
pub paths_on : (text : List ℕ) (place : ℕ) (paths : List (List ℕ)) (path : List ℕ) (at after start : ℕ)
    → PathsFrom text place paths at → at ≤ length text → path_at text paths at ≡ Ok (path, after)
    → or_end gap_at text after ≡ Ok (Some start) → at < start → PathsFrom text place (paths ++ path ∷ []) start
paths_on text place paths path at after start from within read next further =
    many_on (path_at text) (or_end gap_at text) (length text) paths at (paths_in text place) path after start from within read next further

-- it is the last one
pub paths_done : (text : List ℕ) (place : ℕ) (paths : List (List ℕ)) (path : List ℕ) (at after : ℕ) → PathsFrom text place paths at → at ≤ length text → path_at text paths at ≡ Ok (path, after) → or_end gap_at text after ≡ Ok None → paths_at text place ≡ Ok (paths ++ path ∷ [])
paths_done text place paths path at after from within read next =
    ap items_of (many_done (path_at text) (or_end gap_at text) (length text) paths at (paths_in text place) path after from within read next)

-- it does not end there
pub paths_stopped : (text : List ℕ) (place : ℕ) (paths : List (List ℕ)) (path : List ℕ) (at after : ℕ) (refusal : HistoryRefusal) → PathsFrom text place paths at → at ≤ length text → path_at text paths at ≡ Ok (path, after) → or_end gap_at text after ≡ Err refusal → paths_at text place ≡ Err refusal
paths_stopped text place paths path at after refusal from within read next =
    ap items_of (many_stopped (path_at text) (or_end gap_at text) (length text) paths at (paths_in text place) path after refusal from within read next)

-- the next path is refused
pub paths_refused : (text : List ℕ) (place : ℕ) (paths : List (List ℕ)) (at : ℕ) (refusal : HistoryRefusal) → PathsFrom text place paths at → at ≤ length text → path_at text paths at ≡ Err refusal → paths_at text place ≡ Err refusal
paths_refused text place paths at refusal from within refused =
    ap items_of (many_refused (path_at text) (or_end gap_at text) (length text) paths at (paths_in text place) refusal from within refused)

-- ---- the word of a request

-- no word begins there
pub request_refused : (columns : List Column) (text : List ℕ) (place : ℕ) (refusal : PieceRefusal) → one_of request_words text place ≡ Err refusal → OnFalse (is_memory (of_piece refusal)) (request_at columns text place ≡ Err (of_piece refusal))
unfolding request_at
request_refused columns text place refusal refused = refused_for_certain (is_memory (of_piece refusal)) (rw refused refl)

-- a word was read
pub request_read : (lent columns : List Column) (text : List ℕ) (place index after : ℕ)
    (result : Result Request HistoryRefusal) → lent ≡ columns → one_of request_words text place ≡ Ok (index, after)
    → Gives is_memory (λ request. request) result (request_behind lent text (index, after))
    → Gives is_memory (λ request. request) result (request_at columns text place)
unfolding request_at
request_read lent columns text place index after result same read h =
    let word : request_at columns text place ≡ request_behind columns text (index, after) = rw read refl in
    let is : request_behind lent text (index, after) ≡ request_at columns text place = ap (λ (those : List Column). request_behind those text (index, after)) same ∙ sym word in
    subst (λ (r : Result Request HistoryRefusal). Gives is_memory (λ request. request) result r) is h

-- ---- a literal has a closing quote

-- what is read of it goes on behind the place
rest_past : (behind : Bool) (content bytes : List ℕ) (place : ℕ) (read : List ℕ × ℕ) → rest_at behind content bytes place ≡ Ok read → place < read.1
unfolding rest_at
rest_past true content [] place read e = absurd cc
rest_past false content [] place read e = absurd cc
rest_past true content (byte ∷ rest) place read e = go (unescaped byte) refl (λ other h. rest_past false (content ++ other ∷ []) rest (place + 1) read h) where
  go : (o : Option ℕ) → unescaped byte ≡ o → ((other : ℕ) → rest_at false (content ++ other ∷ []) rest (place + 1) ≡ Ok read → place + 1 < read.1) → place < read.1
  go None known next = let none = rw known at e in absurd cc
  go (Some other) known next = let further = next other (rw known at e) in omega arith
rest_past false content (byte ∷ rest) place read e =
    elim (cases_Bool (byte == 34)) [
      | inl quote ↦
          let done = rw quote at e in
          let is : (content, place + 1) ≡ read = cc in
          let at : place + 1 ≡ read.1 = ap (λ (r : List ℕ × ℕ). r.1) is in
          omega arith
      | inr no_quote ↦ elim (cases_Bool (byte == 92)) [
        | inl backslash ↦ let further = rest_past true content rest (place + 1) read (rw (no_quote, backslash) at e) in omega arith
        | inr no_backslash ↦ elim (cases_Bool (is_never_raw byte)) [
          | inl raw ↦ let none = rw (no_quote, no_backslash, raw) at e in absurd cc
          | inr plain ↦ let further = rest_past false (content ++ byte ∷ []) rest (place + 1) read (rw (no_quote, no_backslash, plain) at e) in omega arith
        ]
      ]
    ]

-- so does the literal
pub literal_past : (input : List ℕ) (place : ℕ) (read : List ℕ × ℕ) → literal_at input place ≡ Ok read → place < read.1
literal_past input place read e = go (byte_at 34 input place) refl where
  go : (r : Result ℕ PieceRefusal) → byte_at 34 input place ≡ r → place < read.1
  go (Err refusal) is = let none = rw is at e in absurd cc
  go (Ok start) is =
      let stands = byte_stands 34 input place start is in
      let further = rest_past false [] (drop start input) start read (rw is at e) in
      omega arith
