-- Runs of bytes that stand for themselves, for the loops that read and print them.
use Rattle.std.proofs.Common.{◌≡◌, ℕ, ◌+◌, ◌<◌, ◌≤◌, true, false, List, [], ◌∷◌, ◌++◌, length, get_or, take, drop}
use Rattle.std.proofs.Common.{slice_range, sym, ap, ◌∙◌, arith, append_assoc}
use Rattle.std.specs.List.{flat_map}
use Rattle.std.proofs.lemmas.List.{append-nil, take_all}
use Rattle.pieces.specs.Literal.{rest_at, escape}
use Rattle.pieces.specs.Plain.{is_plain}
use Rattle.pieces.specs.WordLaws.{range_none, range_more}
use Rattle.pieces.specs.LiteralLaws.{IsRun, run_ends}
use Rattle.pieces.proofs.LiteralSteps.{at_plain}

-- ---- as they are read

-- what is read from start on is the bytes up to at, and what is read from there on
abbrev pub IsReadFrom : List ℕ → ℕ → ℕ → Type 0
IsReadFrom input start at = (content : List ℕ) → rest_at false content (drop start input) start ≡ rest_at false (content ++ slice_range input start at) (drop at input) at

-- before the first byte
pub read_begins : (input : List ℕ) (start : ℕ) → IsReadFrom input start start
read_begins input start content = ap (λ (l : List ℕ). rest_at false l (drop start input) start) (sym (append-nil content) ∙ ap (λ (l : List ℕ). content ++ l) (sym (range_none input start)))

-- a byte that stands for itself goes on
pub read_goes_on : (input : List ℕ) (start at : ℕ) → start ≤ at → at < length input → is_plain (get_or input at 0) ≡ true → IsReadFrom input start at → IsReadFrom input start (at + 1)
read_goes_on input start at before lt plain read content =
    read content ∙ (at_plain (content ++ slice_range input start at) input at lt plain ∙ ap (λ (l : List ℕ). rest_at false l (drop (at + 1) input) (at + 1)) (append_assoc content (slice_range input start at) (get_or input at 0 ∷ []) ∙ ap (λ (l : List ℕ). content ++ l)
    (sym (range_more input start at before lt))))

-- the run, and an escape behind it
pub read_escape : (text : List ℕ) (at end other : ℕ) (before mid after piece : List ℕ) → IsReadFrom text at end
    → ((content : List ℕ) → rest_at false content (drop end text) end ≡ rest_at false (content ++ other ∷ []) (drop (end + 2) text) (end + 2))
    → piece ≡ slice_range text at end → mid ≡ before ++ piece → after ≡ mid ++ other ∷ []
    → rest_at false after (drop (end + 2) text) (end + 2) ≡ rest_at false before (drop at text) at
read_escape text at end other before mid after piece read escape piece-is mid-is after-is =
    rw (after-is, mid-is, piece-is) (sym (read before ∙ escape (before ++ slice_range text at end)))

-- ---- as they are printed

-- the whole text is its front and the run to its end
pub run_whole : (text : List ℕ) (plain : ℕ) → IsRun text plain (length text) → flat_map escape text ≡ flat_map escape (take plain text) ++ slice_range text plain (length text)
run_whole text plain run = ap (flat_map escape) (sym (take_all (length text) text (omega arith))) ∙ run.run

-- the run and such a byte are printed
pub printed_on : (text : List ℕ) (plain at : ℕ) (out before mid piece escaped : List ℕ) → IsRun text plain at → at < length text → escape (get_or text at 0) ≡ escaped
    → before ≡ out ++ flat_map escape (take plain text) → piece ≡ slice_range text plain at → mid ≡ before ++ piece → mid ++ escaped ≡ out ++ flat_map escape (take (at + 1) text)
printed_on text plain at out before mid piece escaped run lt is before-is piece-is mid-is =
    rw (mid-is, before-is, piece-is, ← run_ends text plain at escaped run lt is) (simp append_assoc)
