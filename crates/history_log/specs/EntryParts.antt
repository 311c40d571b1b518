-- The parts of an entry's text: its numbers, its runs, and its request after them.
use Rattle.std.specs.Prelude.{ℕ, ℤ, List, ◌++◌, Option, Result, Ok, codes, decimal}
use Rattle.words.specs.Reading.{◌>>=◌, map_refusal}
use Rattle.history_types.specs.declared.entry.Entry.{Entry}
use Rattle.history_types.specs.declared.entry.Run.{Run}
use Rattle.pieces.specs.declared.refusal.PieceRefusal.{PieceRefusal}
use Rattle.pieces.specs.Word.{word_at, gap_at}
use Rattle.pieces.specs.Number.{unsigned_at, optional_long_at, optional_text}
use Rattle.history_log.specs.declared.refusal.HistoryRefusal.{HistoryRefusal}
use Rattle.history_log.specs.Refusal.{of_piece}
use Rattle.history_log.specs.Runs.{runs_text, runs_at}
use Rattle.history_log.specs.Entry.{spaced, before_gap}

-- ---- as they are printed

-- the word and the numbers, each with a space after it
abbrev pub numbers_text : Entry → List ℕ
numbers_text entry =
    spaced (codes "entry")
    ++ (spaced (decimal entry.who) ++ (spaced (optional_text entry.seq) ++ spaced (optional_text entry.next)))

-- the named and the given ids, each with a space after them
abbrev pub ids_text : Entry → List ℕ
ids_text entry = spaced (runs_text entry.named) ++ spaced (runs_text entry.given)

-- ---- as they are read

-- the place after the word and the gap after it
abbrev pub start_at : List ℕ → Result ℕ PieceRefusal
start_at text = word_at (codes "entry") text 0 >>= λ after. gap_at text after

-- whose commit it is, its sequence number and the next id, and the place of the runs
unfoldable pub numbers_at : List ℕ → Result (ℕ × Option ℤ × Option ℤ × ℕ) HistoryRefusal
numbers_at text = do
  start ← map_refusal of_piece (start_at text)
  who ← before_gap text (unsigned_at text start)
  seq ← before_gap text (optional_long_at text who.1)
  next ← before_gap text (optional_long_at text seq.1)
  Ok (who.0, seq.0, next.0, next.1)

-- the named and the given ids, and the place of the request
unfoldable pub ids_at : List ℕ → ℕ → Result (List Run × List Run × ℕ) HistoryRefusal
ids_at text place = do
  named ← before_gap text (runs_at text place)
  given ← before_gap text (runs_at text named.1)
  Ok (named.0, given.0, given.1)
