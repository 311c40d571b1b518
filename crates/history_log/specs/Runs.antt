-- Runs of ids as they are in a text: each as its first id, a plus sign and how many there are;
-- a minus sign if there is none.
use Rattle.std.specs.Prelude.{ℕ, ◌+◌, ◌-◌, ℤ, pos, negsuc, ◌+ℤ◌, int_lt, Bool, false, not, ◌&&◌, List, [], ◌∷◌, ◌++◌}
use Rattle.std.specs.Prelude.{length, slice_get, Option, Some, None, Result, Ok, Err, codes, if◌then◌else◌}
use Rattle.std.specs.List.{flat_map}
use Rattle.std.specs.Fmt.{signed_decimal}
use Rattle.std.specs.Ordering.{int_eq}
use Rattle.words.specs.Reading.{◌>>=◌}
use Rattle.history_types.specs.declared.entry.Run.{Run}
use Rattle.pieces.specs.declared.refusal.PieceRefusal.{PieceRefusal}
use Rattle.pieces.specs.declared.refusal.PieceRefusal.TheVariants.{Syntax}
use Rattle.pieces.specs.declared.number.Passed.{Passed}
use Rattle.pieces.specs.Word.{is_this, byte_at}
use Rattle.pieces.specs.Number.{Signed, signed_at, count_at, is_absent}
use Rattle.pieces.specs.Many.{many}

-- ---- as they are printed

abbrev pub run_text : Run → List ℕ
run_text run = signed_decimal run.first ++ (codes "+" ++ signed_decimal run.count)

-- a run after another one
abbrev pub next_run_text : Run → List ℕ
next_run_text run = codes "," ++ run_text run

-- the one text of runs
abbrev pub runs_text : List Run → List ℕ
runs_text [] = codes "-"
runs_text (run ∷ runs) = run_text run ++ flat_map next_run_text runs

-- ---- as they are read

-- the last of the runs ends where this id follows
unfoldable pub goes_on : List Run → ℤ → Bool
goes_on [] first = false
goes_on (run ∷ []) first = int_eq (run.first +ℤ run.count) first
goes_on (run ∷ next ∷ runs) first = goes_on (next ∷ runs) first

-- another digit may follow the id, which is of 64 bits then, too
abbrev pub may_grow : ℤ → Bool
may_grow first =
    not (int_eq first (pos 0)) && int_lt (negsuc 922337203685477580) first && int_lt first (pos 922337203685477581)

-- where a first id at which the run before goes on stops: at the byte after it,
-- or at its last digit if no digit may follow
abbrev pub stop_of : ℤ → ℕ → ℕ
stop_of first after = if may_grow first then after else after - 1

-- where a first id past 64 bits stops: at the digit that passes them,
-- or where the id before that digit does, if the run before goes on at it
abbrev pub stop_past : List Run → Passed → ℕ
stop_past read passed = if goes_on read passed.front then stop_of passed.front passed.place else passed.place

-- a first id after runs, which is of 64 bits
abbrev pub first_of : List Run → Signed → Result (ℤ × ℕ) PieceRefusal
first_of read (Ok first) = Ok first
first_of read (Err passed) = Err (Syntax (stop_past read passed))

-- the first id of a run after those that were read
abbrev pub first_at : List ℕ → List Run → ℕ → Result (ℤ × ℕ) PieceRefusal
first_at input read place = signed_at input place >>= first_of read

-- the plus sign after a first id; no run begins where the one before it goes on
abbrev pub plus_at : List Run → ℤ → List ℕ → ℕ → Result ℕ PieceRefusal
plus_at read first input place =
    if goes_on read first then Err (Syntax (stop_of first place)) else byte_at 43 input place

-- a run after those that were read
abbrev pub run_at : List ℕ → List Run → ℕ → Result (Run × ℕ) PieceRefusal
run_at input read place =
    first_at input read place >>= λ first. plus_at read first.0 input first.1 >>= λ start.
    count_at input start >>= λ count. Ok (record { first = first.0; count = count.0 }, count.1)

-- a comma after a run says that there is another one
abbrev pub comma_at : List ℕ → ℕ → Result (Option ℕ) PieceRefusal
comma_at input place = Ok (if is_this 44 (slice_get input place) then Some (place + 1) else None)

-- runs, and the place after them
unfoldable pub runs_at : List ℕ → ℕ → Result (List Run × ℕ) PieceRefusal
runs_at input place =
    if is_absent input place then Ok ([], place + 1)
    else many (run_at input) (comma_at input) (length input + 1) [] place
