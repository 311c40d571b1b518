-- An entry that is printed is read.
use Rattle.std.proofs.Common.{◌≡◌, ℕ, ◌+◌, ◌<◌, ◌^◌, ℤ, true, List, [], ◌∷◌, ◌++◌, length, drop, codes, decimal}
use Rattle.std.proofs.Common.{Option, Some, None, Result, Ok, IfSome, refl, sym, ap, ◌∙◌, arith, append_assoc}
use Rattle.std.proofs.lemmas.List.{length-append}
use Rattle.row_types.specs.declared.column.Column.{Column}
use Rattle.history_types.specs.declared.entry.Entry.{Entry}
use Rattle.history_types.specs.declared.entry.Run.{Run}
use Rattle.history_types.specs.declared.request.Request.{Request}
use Rattle.history_types.specs.declared.request.Request.TheVariants.{Append, Compact, Upgrade}
use Rattle.row_types.specs.Fits.{is_long}
use Rattle.history_types.specs.Fits.{AreRuns, FitsEntry}
use Rattle.pieces.specs.declared.refusal.PieceRefusal.{PieceRefusal}
use Rattle.pieces.specs.Word.{spaces, gap_at}
use Rattle.pieces.specs.Number.{unsigned_at, optional_long_at, optional_text}
use Rattle.words.specs.Parts.{behind_is}
use Rattle.pieces.specs.WordLaws.{word_again, gap_again, no_space_first}
use Rattle.pieces.specs.Decimal.{is_long_or_none}
use Rattle.pieces.specs.NumberLaws.{no_digit_first, unsigned_again, optional_long_again, unsigned_no_space}
use Rattle.pieces.specs.NumberLaws.{optional_no_space}
use Rattle.history_log.specs.Runs.{runs_text, runs_at}
use Rattle.history_log.specs.Request.{request_text}
use Rattle.history_log.specs.Entry.{spaced, before_gap, entry_text, entry_of}
use Rattle.history_log.specs.EntryParts.{numbers_text, ids_text, start_at, numbers_at, ids_at}
use Rattle.history_log.proofs.RunsLaws.{runs_again, runs_no_space}
use Rattle.history_log.proofs.RequestLaws.{request_again}
use Rattle.history_log.proofs.EntryLemmas.{entry_read}

-- ---- piece by piece

-- a piece with a space behind it
apart : (piece input rest : List ℕ) (place : ℕ) → drop place input ≡ spaced piece ++ rest → drop place input ≡ piece ++ 32 ∷ rest
apart piece input rest place e = e ∙ append_assoc piece (codes " ") rest

-- what stands behind the space
next_piece : (piece input rest : List ℕ) (place : ℕ) → drop place input ≡ spaced piece ++ rest → drop (place + length (spaced piece)) input ≡ rest
next_piece piece input rest place e = behind_is input place (spaced piece) rest e

-- the space behind a piece is its gap
gap_there : (piece input rest : List ℕ) (place : ℕ) → drop place input ≡ spaced piece ++ rest → spaces rest ≡ 0 → gap_at input (place + length piece) ≡ Ok (place + length (spaced piece))
gap_there piece input rest place e none =
    let there = behind_is input place piece (32 ∷ rest) (apart piece input rest place e) in
    let size : place + length piece + 1 ≡ place + length (spaced piece) = omega (arith, length-append piece (codes " ")) in
    gap_again input rest (place + length piece) there none ∙ ap Ok size

-- a piece is read with its gap
piece_again : {X : Type 0} (x : X) (read : Result (X × ℕ) PieceRefusal) (piece input rest : List ℕ) (place : ℕ) → drop place input ≡ spaced piece ++ rest → spaces rest ≡ 0 → read ≡ Ok (x, place + length piece) → before_gap input read ≡ Ok (x, place + length (spaced piece))
piece_again x read piece input rest place e none is = rw (is, gap_there piece input rest place e none) refl

-- a number that is there has 64 bits
long_or_none : (number : Option ℤ) → IfSome number (λ n. is_long n ≡ true) → is_long_or_none number ≡ true
long_or_none None fits = refl
long_or_none (Some number) fits = fits

-- ---- the numbers

-- the word and the gap behind it
start_again : (input rest : List ℕ) → drop 0 input ≡ spaced (codes "entry") ++ rest → spaces rest ≡ 0 → start_at input ≡ Ok 6
start_again input rest e none =
    rw (word_again (codes "entry") input (32 ∷ rest) 0 e) (gap_there (codes "entry") input rest 0 e none)

-- whose commit it is
who_again : (who : ℕ) (input rest : List ℕ) (place : ℕ) → who < 2 ^ 64 → drop place input ≡ spaced (decimal who) ++ rest → spaces rest ≡ 0 → before_gap input (unsigned_at input place) ≡ Ok (who, place + length (spaced (decimal who)))
who_again who input rest place fits e none =
    piece_again who (unsigned_at input place) (decimal who) input rest place e none (unsigned_again who input (32 ∷ rest) place fits (apart (decimal who) input rest place e) (no_digit_first 32 rest refl))

-- a number that may be absent
number_again : (number : Option ℤ) (input rest : List ℕ) (place : ℕ) → is_long_or_none number ≡ true → drop place input ≡ spaced (optional_text number) ++ rest → spaces rest ≡ 0 → before_gap input (optional_long_at input place) ≡ Ok (number, place + length (spaced (optional_text number)))
number_again number input rest place fits e none =
    piece_again number (optional_long_at input place) (optional_text number) input rest place e none (optional_long_again number input (32 ∷ rest) place fits (apart (optional_text number) input rest place e) (no_digit_first 32 rest refl))

-- a number that may be absent, with a space behind it, doesn't begin with one
number_no_space : (number : Option ℤ) (rest : List ℕ) → is_long_or_none number ≡ true → spaces (spaced (optional_text number) ++ rest) ≡ 0
number_no_space number rest fits = ap spaces (append_assoc (optional_text number) (codes " ") rest) ∙ optional_no_space number (32 ∷ rest) fits

-- the numbers that are printed are read
numbers_again : (entry : Entry) (input rest : List ℕ) → entry.who < 2 ^ 64 → is_long_or_none entry.seq ≡ true → is_long_or_none entry.next ≡ true → drop 0 input ≡ numbers_text entry ++ rest → spaces rest ≡ 0
    → numbers_at input ≡ Ok (entry.who, entry.seq, entry.next, 0 + length (numbers_text entry))
unfolding numbers_at
numbers_again entry input rest who_fits seq_fits next_fits e none =
    let who = spaced (decimal entry.who) in
    let seq = spaced (optional_text entry.seq) in
    let next = spaced (optional_text entry.next) in
    let at_word : drop 0 input ≡ spaced (codes "entry") ++ (who ++ (seq ++ (next ++ rest))) = e ∙ simp append_assoc in
    let at_who = next_piece (codes "entry") input (who ++ (seq ++ (next ++ rest))) 0 at_word in
    let at_seq = next_piece (decimal entry.who) input (seq ++ (next ++ rest)) 6 at_who in
    let at_next = next_piece (optional_text entry.seq) input (next ++ rest) (6 + length who) at_seq in
    let no_who = ap spaces (append_assoc (decimal entry.who) (codes " ") (seq ++ (next ++ rest))) ∙ unsigned_no_space entry.who (32 ∷ (seq ++ (next ++ rest))) who_fits in
    let one = start_again input (who ++ (seq ++ (next ++ rest))) at_word no_who in
    let two = who_again entry.who input (seq ++ (next ++ rest)) 6 who_fits at_who (number_no_space entry.seq (next ++ rest) seq_fits) in
    let three = number_again entry.seq input (next ++ rest) (6 + length who) seq_fits at_seq (number_no_space entry.next rest next_fits) in
    let four = number_again entry.next input rest (6 + length who + length seq) next_fits at_next none in
    let size : 6 + length who + length seq + length next ≡ 0 + length (numbers_text entry) = omega (arith, length-append who (seq ++ next), length-append seq next) in
    rw (one, two, three, four, size) refl

-- ---- the ids

-- runs, and the gap behind them
spaced_runs_again : (runs : List Run) (input rest : List ℕ) (place : ℕ) → AreRuns runs → drop place input ≡ spaced (runs_text runs) ++ rest → spaces rest ≡ 0 → before_gap input (runs_at input place) ≡ Ok (runs, place + length (spaced (runs_text runs)))
spaced_runs_again runs input rest place are e none =
    piece_again runs (runs_at input place) (runs_text runs) input rest place e none (runs_again runs input rest place are (apart (runs_text runs) input rest place e))

-- runs with a space behind them don't begin with one
spaced_runs_no_space : (runs : List Run) (rest : List ℕ) → AreRuns runs → spaces (spaced (runs_text runs) ++ rest) ≡ 0
spaced_runs_no_space runs rest are = ap spaces (append_assoc (runs_text runs) (codes " ") rest) ∙ runs_no_space runs (32 ∷ rest) are

-- the ids that are printed are read
ids_again : (entry : Entry) (input rest : List ℕ) (place : ℕ) → AreRuns entry.named → AreRuns entry.given → drop place input ≡ ids_text entry ++ rest → spaces rest ≡ 0 → ids_at input place ≡ Ok (entry.named, entry.given, place + length (ids_text entry))
unfolding ids_at
ids_again entry input rest place named_are given_are e none =
    let named = spaced (runs_text entry.named) in
    let given = spaced (runs_text entry.given) in
    let at_named : drop place input ≡ named ++ (given ++ rest) = e ∙ append_assoc named given rest in
    let at_given = next_piece (runs_text entry.named) input (given ++ rest) place at_named in
    let one = spaced_runs_again entry.named input (given ++ rest) place named_are at_named (spaced_runs_no_space entry.given rest given_are) in
    let two = spaced_runs_again entry.given input rest (place + length named) given_are at_given none in
    let size : place + length named + length given ≡ place + length (ids_text entry) = omega (arith, length-append named given) in
    rw (one, two, size) refl

-- ---- the whole

-- a request doesn't begin with a space
request_no_space : (request : Request) → spaces (request_text request) ≡ 0
request_no_space (Append rows) = no_space_first 97 _ (omega arith)
request_no_space (Compact paths) = no_space_first 99 _ (omega arith)
request_no_space Upgrade = no_space_first 117 _ (omega arith)

-- an entry is its parts
entry_parts : (entry : Entry) → entry_text entry ≡ numbers_text entry ++ (ids_text entry ++ request_text entry.request)
entry_parts entry = simp append_assoc

-- what is printed, part by part, is the entry's text
pub entry_printed : (entry : Entry) (none numbers ids all : List ℕ) → none ≡ [] → numbers ≡ none ++ numbers_text entry → ids ≡ numbers ++ ids_text entry → all ≡ ids ++ request_text entry.request → all ≡ entry_text entry
entry_printed entry none numbers ids all none_is numbers_are ids_are all_is =
    rw (all_is, ids_are, numbers_are, none_is) (append_assoc (numbers_text entry) (ids_text entry) (request_text entry.request) ∙ sym (entry_parts entry))

-- an entry that is printed is read
pub entry_again : (columns : List Column) (entry : Entry) → FitsEntry columns entry → entry_of columns (entry_text entry) ≡ Ok entry
entry_again columns entry fits =
    let text = entry_text entry in
    let behind_ids = request_text entry.request in
    let whole : drop 0 text ≡ numbers_text entry ++ (ids_text entry ++ behind_ids) = entry_parts entry in
    let at_ids = behind_is text 0 (numbers_text entry) (ids_text entry ++ behind_ids) whole in
    let at_request = behind_is text (0 + length (numbers_text entry)) (ids_text entry) behind_ids at_ids in
    let no_ids = ap spaces (append_assoc (spaced (runs_text entry.named)) (spaced (runs_text entry.given)) behind_ids) ∙ spaced_runs_no_space entry.named (spaced (runs_text entry.given) ++ behind_ids) fits.named in
    let one = numbers_again entry text (ids_text entry ++ behind_ids) fits.who (long_or_none entry.seq fits.seq) (long_or_none entry.next fits.next) whole no_ids in
    let two = ids_again entry text behind_ids (0 + length (numbers_text entry)) fits.named fits.given at_ids (request_no_space entry.request) in
    entry_read columns text _ _ entry.request (sym one) two (request_again columns entry.request text _ fits.request at_request)
