-- Each line of a report is printed as one line of UTF-8.
use Rattle.std.proofs.Common.{◌≡◌, ℕ, ◌<◌, ℤ, Bool, true, false, codes, decimal, List, [], ◌∷◌, All, Option, refl}
use Rattle.std.proofs.Common.{arith}
use Rattle.std.specs.Fmt.{signed_decimal}
use Rattle.std.specs.List.{flat_map, list_all}
use Rattle.std.specs.Str.{is_utf8}
use Rattle.std.proofs.lemmas.Bool.{and_parts}
use Rattle.std.proofs.lemmas.List.Elements.{All-head, All-tail}
use Rattle.row_types.specs.declared.cell.Cell.{Cell}
use Rattle.row_types.specs.declared.cell.Cell.TheVariants.{Null, Flag, Num, Text, Bytes}
use Rattle.row_types.specs.declared.column.Column.{Column}
use Rattle.row_types.specs.declared.column.Kind.{Kind}
use Rattle.history_types.specs.declared.entry.Entry.{Entry}
use Rattle.history_types.specs.declared.entry.Run.{Run}
use Rattle.history_types.specs.declared.request.Request.{Request}
use Rattle.history_types.specs.declared.request.Request.TheVariants.{Append, Compact, Upgrade}
use Rattle.row_types.specs.declared.row.Row.{Row}
use Rattle.row_types.specs.KindWord.{kind_text}
use Rattle.row_types.specs.Columns.{IsColumns}
use Rattle.row_types.specs.Fits.{fits, fits_row, has_real_bytes, is_int, is_long, IsRow}
use Rattle.history_types.specs.Fits.{IsRun, AreRuns, FitsRequest, FitsEntry}
use Rattle.pieces.specs.Number.{optional_text}
use Rattle.pieces.specs.Literal.{literal_text}
use Rattle.pieces.specs.Decimal.{is_long_or_none}
use Rattle.cell_text.specs.Cell.{cell_text}
use Rattle.row_pred.specs.Cells.{spaced_text, cells_text}
use Rattle.row_types.specs.KindWordLaws.{has_word}
use Rattle.row_types.specs.FitsLaws.{int_is_long, number_is_long}
use Rattle.history_log.specs.Runs.{run_text, next_run_text, runs_text}
use Rattle.history_log.specs.Request.{next_row_text, rows_text, next_path_text, request_text}
use Rattle.history_log.specs.Entry.{spaced, entry_text}
use Rattle.report.specs.Printed.{required_text, column_text, next_column_text, schema_text, start_text}
use Rattle.report.specs.Printed.{row_text, is_text, HasTexts, FitsRow}
use Rattle.report.proofs.PrintedBytes.{IsLine, empty_line, line_append, plain_then, plain_line, decimal_line}
use Rattle.report.proofs.PrintedBytes.{graphic_line, signed_line, optional_line, literal_line, hex_line}
use Rattle.report.proofs.PrintedColumns.{id_is_int}
use Rattle.report.proofs.PrintedLines.{long_or_none}

-- ---- cells

-- a cell of a column
cell_line : (column : Column) (cell : Cell) → fits column cell ≡ true → has_real_bytes cell ≡ true → is_text cell ≡ true → IsLine (cell_text cell)
cell_line column Null fit real text = plain_line (codes "null") refl
cell_line column (Flag true) fit real text = plain_line (codes "true") refl
cell_line column (Flag false) fit real text = plain_line (codes "false") refl
cell_line column (Num number) fit real text = signed_line number (number_is_long column.kind number fit)
cell_line column (Text bytes) fit real text = literal_line bytes text
cell_line column (Bytes bytes) fit real text = hex_line bytes real

-- cells behind another one
others_line : (columns : List Column) (cells : List Cell) → fits_row columns cells ≡ true → list_all has_real_bytes cells ≡ true → list_all is_text cells ≡ true → IsLine (flat_map spaced_text cells)
unfolding fits_row
others_line columns [] fit real text = empty_line
others_line [] (cell ∷ cells) fit real text = absurd cc
others_line (column ∷ columns) (cell ∷ cells) fit real text =
    let fit_parts = and_parts (fits column cell) (fits_row columns cells) fit in
    let real_parts = and_parts (has_real_bytes cell) (list_all has_real_bytes cells) real in
    let text_parts = and_parts (is_text cell) (list_all is_text cells) text in
    plain_then 32 _ refl (line_append (cell_text cell) _ (cell_line column cell fit_parts.0 real_parts.0 text_parts.0) (others_line columns cells fit_parts.1 real_parts.1 text_parts.1))

-- the cells of a row
cells_line : (columns : List Column) (cells : List Cell) → IsRow columns cells → list_all is_text cells ≡ true → IsLine (cells_text cells)
unfolding fits_row
cells_line columns [] row text = empty_line
cells_line [] (cell ∷ cells) row text = let none = row.0 in absurd cc
cells_line (column ∷ columns) (cell ∷ cells) row text =
    let fit_parts = and_parts (fits column cell) (fits_row columns cells) row.0 in
    let real_parts = and_parts (has_real_bytes cell) (list_all has_real_bytes cells) row.1 in
    let text_parts = and_parts (is_text cell) (list_all is_text cells) text in
    line_append (cell_text cell) _ (cell_line column cell fit_parts.0 real_parts.0 text_parts.0) (others_line columns cells fit_parts.1 real_parts.1 text_parts.1)

-- ---- requests

-- rows behind another one
next_rows_line : (columns : List Column) (rows : List (List Cell)) → All (IsRow columns) rows → All (λ (cells : List Cell). list_all is_text cells ≡ true) rows → IsLine (flat_map next_row_text rows)
next_rows_line columns [] are texts = empty_line
next_rows_line columns (row ∷ rows) are texts =
    let one = cells_line columns row (All-head (IsRow columns) row rows are) (All-head (λ (cells : List Cell). list_all is_text cells ≡ true) row rows texts) in
    let others = next_rows_line columns rows (All-tail (IsRow columns) row rows are) (All-tail (λ (cells : List Cell). list_all is_text cells ≡ true) row rows texts) in
    line_append (next_row_text row) _ (line_append (codes " ; ") (cells_text row) (plain_line (codes " ; ") refl) one) others

-- the rows of an append
rows_line : (columns : List Column) (rows : List (List Cell)) → All (IsRow columns) rows → All (λ (cells : List Cell). list_all is_text cells ≡ true) rows → IsLine (rows_text rows)
rows_line columns [] are texts = empty_line
rows_line columns (row ∷ rows) are texts =
    let one = cells_line columns row (All-head (IsRow columns) row rows are) (All-head (λ (cells : List Cell). list_all is_text cells ≡ true) row rows texts) in
    let others = next_rows_line columns rows (All-tail (IsRow columns) row rows are) (All-tail (λ (cells : List Cell). list_all is_text cells ≡ true) row rows texts) in
    line_append (cells_text row) _ one others

-- paths
paths_line : (paths : List (List ℕ)) → All (λ (path : List ℕ). is_utf8 path ≡ true) paths → IsLine (flat_map next_path_text paths)
paths_line [] texts = empty_line
paths_line (path ∷ paths) texts =
    let one = literal_line path (All-head (λ (path : List ℕ). is_utf8 path ≡ true) path paths texts) in
    line_append (next_path_text path) _ (plain_then 32 (literal_text path) refl one) (paths_line paths (All-tail (λ (path : List ℕ). is_utf8 path ≡ true) path paths texts))

-- a request
request_line : (columns : List Column) (request : Request) → FitsRequest columns request → HasTexts request → IsLine (request_text request)
request_line columns (Append rows) fit texts = line_append (codes "append ") (rows_text rows) (plain_line (codes "append ") refl) (rows_line columns rows fit.1 texts)
request_line columns (Compact paths) fit texts = line_append (codes "compact") (flat_map next_path_text paths) (plain_line (codes "compact") refl) (paths_line paths texts)
request_line columns Upgrade fit texts = plain_line (codes "upgrade") refl

-- ---- entries

-- a run
run_line : (run : Run) → IsRun run → IsLine (run_text run)
run_line run is = line_append (signed_decimal run.first) _ (signed_line run.first is.first) (plain_then 43 (signed_decimal run.count) refl (signed_line run.count is.count))

-- the first of the runs is one
first_run : (run : Run) (runs : List Run) → AreRuns (run ∷ runs) → IsRun run
first_run run [] are = are
first_run run (next ∷ runs) are = are.0

-- runs behind another one
next_runs_line : (run : Run) (runs : List Run) → AreRuns (run ∷ runs) → IsLine (flat_map next_run_text runs)
next_runs_line run [] are = empty_line
next_runs_line run (next ∷ runs) are = line_append (next_run_text next) _ (plain_then 44 (run_text next) refl (run_line next (first_run next runs are.2))) (next_runs_line next runs are.2)

-- runs
runs_line : (runs : List Run) → AreRuns runs → IsLine (runs_text runs)
runs_line [] are = plain_line (codes "-") refl
runs_line (run ∷ runs) are = line_append (run_text run) _ (run_line run (first_run run runs are)) (next_runs_line run runs are)

-- a piece with a space behind it
spaced_line : (piece : List ℕ) → IsLine piece → IsLine (spaced piece)
spaced_line piece is = line_append piece (codes " ") is (plain_line (codes " ") refl)

-- an entry
pub entry_is_line : (columns : List Column) (entry : Entry) → FitsEntry columns entry → HasTexts entry.request → IsLine (entry_text entry)
entry_is_line columns entry fit texts =
    line_append (spaced (codes "entry")) _ (plain_line (spaced (codes "entry")) refl)
    (line_append (spaced (decimal entry.who)) _ (spaced_line (decimal entry.who) (decimal_line entry.who fit.who))
    (line_append (spaced (optional_text entry.seq)) _ (spaced_line (optional_text entry.seq) (optional_line entry.seq (long_or_none entry.seq fit.seq)))
    (line_append (spaced (optional_text entry.next)) _ (spaced_line (optional_text entry.next) (optional_line entry.next (long_or_none entry.next fit.next)))
    (line_append (spaced (runs_text entry.named)) _ (spaced_line (runs_text entry.named) (runs_line entry.named fit.named))
    (line_append (spaced (runs_text entry.given)) _ (spaced_line (runs_text entry.given) (runs_line entry.given fit.given))
    (request_line columns entry.request fit.request texts))))))

-- ---- columns

-- the word of a kind
kind_line : (kind : Kind) → IsLine (kind_text kind)
kind_line kind = graphic_line (kind_text kind) (has_word kind).graphic

-- a column
column_line : (column : Column) → is_int column.id ≡ true → is_utf8 column.name ≡ true → IsLine (column_text column)
column_line column fit name =
    line_append (signed_decimal column.id) _ (signed_line column.id (int_is_long column.id fit))
    (plain_then 58 _ refl (line_append (kind_text column.kind) _ (kind_line column.kind)
    (plain_then 58 _ refl (line_append (required_text column.required) _ (required_line column.required)
    (plain_then 58 _ refl (literal_line column.name name))))))
  where
    required_line : (required : Bool) → IsLine (required_text required)
    required_line true = plain_line (codes "required") refl
    required_line false = plain_line (codes "optional") refl

-- columns
columns_line : (columns : List Column) → All (λ (one : Column). is_int one.id ≡ true) columns → All (λ (one : Column). is_utf8 one.name ≡ true) columns → IsLine (flat_map next_column_text columns)
columns_line [] fit names = empty_line
columns_line (column ∷ columns) fit names =
    let one = column_line column (All-head (λ (one : Column). is_int one.id ≡ true) column columns fit) (All-head (λ (one : Column). is_utf8 one.name ≡ true) column columns names) in
    let others = columns_line columns (All-tail (λ (one : Column). is_int one.id ≡ true) column columns fit) (All-tail (λ (one : Column). is_utf8 one.name ≡ true) column columns names) in
    line_append (next_column_text column) _ (plain_then 32 (column_text column) refl one) others

-- the columns of a table
pub schema_is_line : (columns : List Column) → IsColumns columns → All (λ (one : Column). is_utf8 one.name ≡ true) columns → IsLine (schema_text columns)
schema_is_line columns right names =
    let fit : All (λ (one : Column). is_int one.id ≡ true) columns = λ k d lt. id_is_int _ (right.ids k d lt).0 (right.ids k d lt).1 in
    line_append (codes "schema") (flat_map next_column_text columns) (plain_line (codes "schema") refl) (columns_line columns fit names)

-- ---- the state at the start

-- its numbers
pub start_is_line : (version : ℕ) (seq : ℤ) (next : Option ℤ) → version < 256 → is_long seq ≡ true → is_long_or_none next ≡ true → IsLine (start_text version seq next)
start_is_line version seq next version_fits seq_fits next_fits =
    line_append (codes "start ") _ (plain_line (codes "start ") refl)
    (line_append (decimal version) _ (decimal_line version (omega arith))
    (plain_then 32 _ refl (line_append (signed_decimal seq) _ (signed_line seq seq_fits)
    (plain_then 32 (optional_text next) refl (optional_line next next_fits)))))

-- a row
pub row_is_line : (columns : List Column) (row : Row) → FitsRow columns row → IsLine (row_text row)
row_is_line columns row fit =
    line_append (codes "row ") _ (plain_line (codes "row ") refl)
    (line_append (optional_text row.id) _ (optional_line row.id (long_or_none row.id fit.id))
    (plain_then 32 _ refl (line_append (signed_decimal row.last) _ (signed_line row.last fit.last)
    (plain_then 32 (cells_text row.cells) refl (cells_line columns row.cells fit.cells fit.texts)))))
