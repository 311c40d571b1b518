-- The line of the state at the start: its version, its sequence number and its next id.
use Rattle.std.specs.Prelude.{ℕ, ℤ, List, [], Option, Result, Ok, Err, nat_lt, codes, if◌then◌else◌}
use Rattle.words.specs.Reading.{◌>>=◌, map_refusal}
use Rattle.history_types.specs.declared.state.State.{State}
use Rattle.pieces.specs.declared.refusal.PieceRefusal.{PieceRefusal}
use Rattle.pieces.specs.declared.refusal.PieceRefusal.TheVariants.{Syntax}
use Rattle.pieces.specs.Word.{word_at, gap_at, end_at}
use Rattle.pieces.specs.Number.{unsigned_at, long_at, optional_long_at}
use Rattle.report.specs.declared.refusal.LineRefusal.{LineRefusal}
use Rattle.report.specs.Refusal.{of_piece}

-- a version: a number of 8 bits
abbrev pub version_at : List ℕ → ℕ → Result (ℕ × ℕ) PieceRefusal
version_at input place = unsigned_at input place >>= λ read. if nat_lt read.0 256 then Ok read else Err (Syntax place)

-- a word, and the place behind the gap after it
abbrev pub word_and_gap : List ℕ → List ℕ → Result ℕ PieceRefusal
word_and_gap word input = word_at word input 0 >>= λ after. gap_at input after

-- the version of the line, and where what follows it begins
abbrev pub front_of : List ℕ → Result (ℕ × ℕ) PieceRefusal
front_of line =
    word_and_gap (codes "start") line >>= λ start. version_at line start >>= λ version.
    gap_at line version.1 >>= λ start. Ok (version.0, start)

-- the sequence number and the next id, which end the line
abbrev pub rest_of : List ℕ → ℕ → Result (ℤ × Option ℤ) PieceRefusal
rest_of line start =
    long_at line start >>= λ seq. gap_at line seq.1 >>= λ start.
    optional_long_at line start >>= λ next. end_at line next.1 >>= λ done. Ok (seq.0, next.0)

-- the numbers of the line
abbrev pub numbers_of : List ℕ → Result (ℕ × ℤ × Option ℤ) PieceRefusal
numbers_of line = front_of line >>= λ version. rest_of line version.1 >>= λ rest. Ok (version.0, rest.0, rest.1)

-- the state without its rows
abbrev pub without_rows : ℕ × ℤ × Option ℤ → State
without_rows (version, seq, next) = record { version = version; unnamed = []; rows = []; next = next; seq = seq }

unfoldable pub start_of : List ℕ → Result State LineRefusal
start_of line = map_refusal of_piece (numbers_of line) >>= λ numbers. Ok (without_rows numbers)
