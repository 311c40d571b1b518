-- Entries as they are in a text: the word, whose commit it is, its sequence number, the next id, the named and
-- the given ids, and the request.
use Rattle.std.specs.Prelude.{ℕ, List, ◌++◌, Result, Ok, codes, decimal}
use Rattle.words.specs.Reading.{◌>>=◌, map_refusal}
use Rattle.row_types.specs.declared.column.Column.{Column}
use Rattle.history_types.specs.declared.entry.Entry.{Entry}
use Rattle.pieces.specs.declared.refusal.PieceRefusal.{PieceRefusal}
use Rattle.pieces.specs.Word.{word_at, gap_at}
use Rattle.pieces.specs.Number.{unsigned_at, optional_long_at, optional_text}
use Rattle.history_log.specs.declared.refusal.HistoryRefusal.{HistoryRefusal}
use Rattle.history_log.specs.Refusal.{of_piece}
use Rattle.history_log.specs.Runs.{runs_text, runs_at}
use Rattle.history_log.specs.Request.{request_text, request_at}

-- ---- as they are printed

-- a piece, and a space after it
abbrev pub spaced : List ℕ → List ℕ
spaced piece = piece ++ codes " "

-- the one text of an entry, without LF
abbrev pub entry_text : Entry → List ℕ
entry_text entry =
    spaced (codes "entry")
    ++ (spaced (decimal entry.who) ++ (spaced (optional_text entry.seq) ++ (spaced (optional_text entry.next)
    ++ (spaced (runs_text entry.named) ++ (spaced (runs_text entry.given) ++ request_text entry.request)))))

-- ---- as they are read

-- a piece, and the place after the gap after it
abbrev pub before_gap : {X : Type 0} → List ℕ → Result (X × ℕ) PieceRefusal → Result (X × ℕ) HistoryRefusal
before_gap input read = map_refusal of_piece (read >>= λ piece. gap_at input piece.1 >>= λ start. Ok (piece.0, start))

-- an entry that is the whole text
unfoldable pub entry_of : List Column → List ℕ → Result Entry HistoryRefusal
entry_of columns text = do
  start ← map_refusal of_piece (word_at (codes "entry") text 0 >>= λ after. gap_at text after)
  who ← before_gap text (unsigned_at text start)
  seq ← before_gap text (optional_long_at text who.1)
  next ← before_gap text (optional_long_at text seq.1)
  named ← before_gap text (runs_at text next.1)
  given ← before_gap text (runs_at text named.1)
  request ← request_at columns text given.1
  Ok (record { who = who.0; request = request; seq = seq.0; named = named.0; given = given.0; next = next.0 })
