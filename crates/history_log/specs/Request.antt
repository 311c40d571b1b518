-- Requests as they are in a text.
use Rattle.std.specs.Prelude.{ℕ, zero, suc, ◌+◌, ◌-◌, ◌==◌, Bool, List, [], ◌∷◌, ◌++◌, length, Option, Some, None}
use Rattle.std.specs.Prelude.{Result, Ok, Err, codes, if◌then◌else◌}
use Rattle.std.specs.List.{flat_map, list_any}
use Rattle.std.specs.Str.{bytes_eq}
use Rattle.words.specs.Reading.{◌>>=◌, map_refusal, map_value}
use Rattle.row_types.specs.declared.cell.Cell.{Cell}
use Rattle.row_types.specs.declared.column.Column.{Column}
use Rattle.history_types.specs.declared.request.Request.{Request}
use Rattle.history_types.specs.declared.request.Request.TheVariants.{Append, Compact, Upgrade}
use Rattle.pieces.specs.declared.refusal.PieceRefusal.{PieceRefusal}
use Rattle.pieces.specs.declared.refusal.PieceRefusal.TheVariants.{Syntax}
use Rattle.pieces.specs.Word.{one_of, gap_at, mark_at, end_at}
use Rattle.pieces.specs.Literal.{literal_text, literal_at}
use Rattle.pieces.specs.Many.{many}
use Rattle.row_pred.specs.Cells.{cells_text, cells_at}
use Rattle.history_log.specs.declared.refusal.HistoryRefusal.{HistoryRefusal}
use Rattle.history_log.specs.Refusal.{of_piece, of_cells}

-- ---- as they are printed

-- a row after another one
abbrev pub next_row_text : List Cell → List ℕ
next_row_text cells = codes " ; " ++ cells_text cells

-- the rows of an append
abbrev pub rows_text : List (List Cell) → List ℕ
rows_text [] = []
rows_text (row ∷ rows) = cells_text row ++ flat_map next_row_text rows

-- a path after the word or another path
abbrev pub next_path_text : List ℕ → List ℕ
next_path_text path = codes " " ++ literal_text path

-- the one text of a request
abbrev pub request_text : Request → List ℕ
request_text (Append rows) = codes "append " ++ rows_text rows
request_text (Compact paths) = codes "compact" ++ flat_map next_path_text paths
request_text Upgrade = codes "upgrade"

-- ---- as they are read: up to the end of the text

-- the words that requests begin with
abbrev pub request_words : List (List ℕ)
request_words = codes "append" ∷ codes "compact" ∷ codes "upgrade" ∷ []

-- whether the text ends here, or where the next item begins
abbrev pub or_end : (List ℕ → ℕ → Result ℕ PieceRefusal) → List ℕ → ℕ → Result (Option ℕ) HistoryRefusal
or_end next input place =
    if place == length input then Ok None else map_refusal of_piece (map_value (λ start. Some start) (next input place))

-- a row
abbrev pub row_at : List Column → List ℕ → List (List Cell) → ℕ → Result (List Cell × ℕ) HistoryRefusal
row_at columns input read place = map_refusal of_cells (cells_at columns input place)

-- rows, parted by semicolons
abbrev pub rows_at : List Column → List ℕ → ℕ → Result (List (List Cell)) HistoryRefusal
rows_at columns input place =
    map_value (λ read. read.0) (many (row_at columns input) (or_end (mark_at 59) input) (length input + 1) [] place)

-- the path stood before
abbrev pub is_repeated : List (List ℕ) → List ℕ → Bool
is_repeated read path = list_any (λ other. bytes_eq other path) read

-- a path that is not repeated; one that is can't end here
abbrev pub new_path : List (List ℕ) → List ℕ × ℕ → Result (List ℕ × ℕ) PieceRefusal
new_path read (path, after) = if is_repeated read path then Err (Syntax (after - 1)) else Ok (path, after)

-- a path after those that were read
abbrev pub path_at : List ℕ → List (List ℕ) → ℕ → Result (List ℕ × ℕ) HistoryRefusal
path_at input read place = map_refusal of_piece (literal_at input place >>= λ literal. new_path read literal)

-- distinct paths, parted by gaps
abbrev pub paths_at : List ℕ → ℕ → Result (List (List ℕ)) HistoryRefusal
paths_at input place =
    map_value (λ read. read.0) (many (path_at input) (or_end gap_at input) (length input + 1) [] place)

-- paths after a gap, or none at the end
abbrev pub paths_or_end : List ℕ → Option ℕ → Result (List (List ℕ)) HistoryRefusal
paths_or_end input None = Ok []
paths_or_end input (Some start) = paths_at input start

-- what follows the word of a request, by its place among them
abbrev pub request_behind : List Column → List ℕ → ℕ × ℕ → Result Request HistoryRefusal
request_behind columns input (zero, place) =
    map_refusal of_piece (gap_at input place) >>= λ start. map_value Append (rows_at columns input start)
request_behind columns input (suc zero, place) =
    or_end gap_at input place >>= λ next. map_value Compact (paths_or_end input next)
request_behind columns input (suc (suc index), place) =
    map_refusal of_piece (end_at input place) >>= λ done. Ok Upgrade

-- a request from the place to the end of the text
unfoldable pub request_at : List Column → List ℕ → ℕ → Result Request HistoryRefusal
request_at columns input place =
    map_refusal of_piece (one_of request_words input place) >>= λ word. request_behind columns input word

-- a request that is the whole text
abbrev pub request_of : List Column → List ℕ → Result Request HistoryRefusal
request_of columns text = request_at columns text 0
