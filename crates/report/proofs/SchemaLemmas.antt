-- Kinds by their words, and columns one behind the other.
use Rattle.std.proofs.Common.{◌≡◌, ℕ, ◌≤◌, ◌<◌, List, [], ◌∷◌, ◌++◌, length, Some, None, Result, Ok, Err, ap, sym}
use Rattle.words.specs.Reading.{map_value}
use Rattle.row_types.specs.declared.column.Column.{Column}
use Rattle.row_types.specs.declared.column.Kind.{Kind}
use Rattle.row_types.specs.KindWord.{kind_words, kind_of_word}
use Rattle.pieces.specs.declared.refusal.PieceRefusal.{PieceRefusal}
use Rattle.pieces.specs.Word.{one_of}
use Rattle.pieces.specs.Many.{Item}
use Rattle.pieces.specs.ManyLaws.{ManyFrom, many_on, many_done, many_refused, many_stopped}
use Rattle.report.specs.Schema.{kind_at, column_at, gap_or_end}

-- a word of a kind was read
pub kind_read : (input : List ℕ) (place index after : ℕ) (kind : Kind) → Ok (index, after) ≡ one_of kind_words input place → kind ≡ kind_of_word index → Ok (kind, after) ≡ kind_at input place
kind_read input place index after kind read is = rw is (ap (λ (r : Result (ℕ × ℕ) PieceRefusal). map_value (λ word. (kind_of_word word.0, word.1)) r) read)

-- no word of a kind stands there
pub kind_refused : (input : List ℕ) (place : ℕ) (refusal : PieceRefusal) → Err refusal ≡ one_of kind_words input place → Err refusal ≡ kind_at input place
kind_refused input place refusal read = ap (λ (r : Result (ℕ × ℕ) PieceRefusal). map_value (λ word. (kind_of_word word.0, word.1)) r) read

-- ---- columns one behind the other

-- a column
abbrev pub item : List ℕ → Item Column PieceRefusal
item line = λ read place. column_at line place

-- the columns from here on are those from the start on
abbrev pub ColumnsFrom : List ℕ → List Column → ℕ → Result (List Column × ℕ) PieceRefusal → Type 0
ColumnsFrom line list at total = ManyFrom (item line) (gap_or_end line) (length line) list at total

-- the list of the total
abbrev pub list_of : Result (List Column × ℕ) PieceRefusal → Result (List Column) PieceRefusal
list_of total = map_value (λ read. read.0) total

-- the next column is refused
pub column_refused : (line : List ℕ) (list : List Column) (at : ℕ) (total : Result (List Column × ℕ) PieceRefusal) (refusal : PieceRefusal) → ColumnsFrom line list at total → at ≤ length line → column_at line at ≡ Err refusal → list_of total ≡ Err refusal
column_refused line list at total refusal from within one =
    ap list_of (many_refused (item line) (gap_or_end line) (length line) list at total refusal from within one)

-- what stands behind the next column is refused
pub column_stopped : (line : List ℕ) (list : List Column) (at : ℕ) (total : Result (List Column × ℕ) PieceRefusal)
    (column : Column) (after : ℕ) (refusal : PieceRefusal) → ColumnsFrom line list at total → at ≤ length line
    → column_at line at ≡ Ok (column, after) → Err refusal ≡ gap_or_end line after → list_of total ≡ Err refusal
column_stopped line list at total column after refusal from within one next =
    ap list_of (many_stopped (item line) (gap_or_end line) (length line) list at total column after refusal from within one (sym next))

-- the next column is the last one
pub column_last : (line : List ℕ) (list now : List Column) (at : ℕ) (total : Result (List Column × ℕ) PieceRefusal)
    (column : Column) (after : ℕ) → ColumnsFrom line list at total → at ≤ length line
    → column_at line at ≡ Ok (column, after) → Ok None ≡ gap_or_end line after → now ≡ list ++ column ∷ []
    → list_of total ≡ Ok now
column_last line list now at total column after from within one next grown =
    rw grown (ap list_of (many_done (item line) (gap_or_end line) (length line) list at total column after from within one (sym next)))

-- another one follows the next column
pub column_more : (line : List ℕ) (list now : List Column) (at : ℕ) (total : Result (List Column × ℕ) PieceRefusal)
    (column : Column) (after start : ℕ) → ColumnsFrom line list at total → at ≤ length line
    → column_at line at ≡ Ok (column, after) → Ok (Some start) ≡ gap_or_end line after → at < start
    → now ≡ list ++ column ∷ [] → ColumnsFrom line now start total
column_more line list now at total column after start from within one next further grown =
    rw grown (many_on (item line) (gap_or_end line) (length line) list at total column after start from within one (sym next) further)
