-- The line of the columns: the word, and a column behind each space.
use Rattle.std.specs.Prelude.{Bool, ℕ, ◌+◌, ◌==◌, ℤ, List, [], ◌∷◌, length, Option, Some, None, Result, Ok}
use Rattle.std.specs.Prelude.{Err, codes, if◌then◌else◌}
use Rattle.words.specs.Reading.{◌>>=◌, map_refusal, map_value}
use Rattle.row_types.specs.declared.column.Column.{Column}
use Rattle.row_types.specs.declared.column.Kind.{Kind}
use Rattle.row_types.specs.KindWord.{kind_words, kind_of_word}
use Rattle.row_types.specs.Columns.{columns_of}
use Rattle.row_types.specs.Fits.{is_int}
use Rattle.pieces.specs.declared.refusal.PieceRefusal.{PieceRefusal}
use Rattle.pieces.specs.declared.refusal.PieceRefusal.TheVariants.{Syntax}
use Rattle.pieces.specs.Word.{byte_at, one_of, gap_at}
use Rattle.pieces.specs.Number.{long_at}
use Rattle.pieces.specs.Literal.{literal_at}
use Rattle.pieces.specs.Many.{many}
use Rattle.report.specs.declared.refusal.LineRefusal.{LineRefusal}
use Rattle.report.specs.Refusal.{of_piece, of_columns}
use Rattle.report.specs.Start.{word_and_gap}

-- whether null may not or may stand in a column
abbrev pub null_words : List (List ℕ)
null_words = codes "required" ∷ codes "optional" ∷ []

-- an id of 32 bits
abbrev pub id_at : List ℕ → ℕ → Result (ℤ × ℕ) PieceRefusal
id_at input place = long_at input place >>= λ read. if is_int read.0 then Ok read else Err (Syntax place)

-- a kind by its word
abbrev pub kind_at : List ℕ → ℕ → Result (Kind × ℕ) PieceRefusal
kind_at input place = map_value (λ word. (kind_of_word word.0, word.1)) (one_of kind_words input place)

-- whether a column is required, by its word
abbrev pub required_at : List ℕ → ℕ → Result (Bool × ℕ) PieceRefusal
required_at input place = map_value (λ word. (word.0 == 0, word.1)) (one_of null_words input place)

-- a piece, and the place behind the colon after it
abbrev pub before_colon : {X : Type 0} → List ℕ → Result (X × ℕ) PieceRefusal → Result (X × ℕ) PieceRefusal
before_colon input read = read >>= λ piece. byte_at 58 input piece.1 >>= λ start. Ok (piece.0, start)

-- the name of a column, as a literal, behind the others
abbrev pub named_at : List ℕ → ℤ → Kind → Bool → ℕ → Result (Column × ℕ) PieceRefusal
named_at input id kind required place =
    map_value (λ name. (record { id = id; name = name.0; kind = kind; required = required }, name.1))
    (literal_at input place)

-- a column: its id, its kind, whether it is required, and its name, with colons between them
abbrev pub column_at : List ℕ → ℕ → Result (Column × ℕ) PieceRefusal
column_at input place =
    before_colon input (id_at input place)
    >>= λ id. before_colon input (kind_at input id.1)
    >>= λ kind. before_colon input (required_at input kind.1)
    >>= λ required. named_at input id.0 kind.0 required.0 required.1

-- whether the line ends here, or where the next column begins
abbrev pub gap_or_end : List ℕ → ℕ → Result (Option ℕ) PieceRefusal
gap_or_end input place =
    if place == length input then Ok None else map_value (λ start. Some start) (gap_at input place)

-- columns from the place to the end of the line, with gaps between them
abbrev pub columns_at : List ℕ → ℕ → Result (List Column × ℕ) PieceRefusal
columns_at line start = many (λ read place. column_at line place) (gap_or_end line) (length line + 1) [] start

-- the columns of the line, which are its list alone
abbrev pub listed : List ℕ → Result (List Column) PieceRefusal
listed line = word_and_gap (codes "schema") line >>= λ start. map_value (λ read. read.0) (columns_at line start)

-- the columns of a table, as the line tells them
unfoldable pub schema_of : List ℕ → Result (List Column) LineRefusal
schema_of line = map_refusal of_piece (listed line) >>= λ list. map_refusal of_columns (columns_of list)
