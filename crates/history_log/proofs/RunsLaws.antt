-- Runs that are printed are read.
use Rattle.std.proofs.Common.{◌≡◌, ◌≢◌, ℕ, ◌+◌, ◌≤◌, ◌<◌, ℤ, ◌+ℤ◌, true, false, List, [], ◌∷◌, ◌++◌, length, drop}
use Rattle.std.proofs.Common.{Result, Ok, refl, sym, ap, ◌∙◌, arith, append_assoc}
use Rattle.std.specs.Prelude.{slice_get}
use Rattle.std.specs.List.{flat_map}
use Rattle.std.specs.Fmt.{signed_decimal}
use Rattle.std.specs.Ordering.{int_eq}
use Rattle.std.proofs.lemmas.Bool.{false_from_ne_true}
use Rattle.std.proofs.lemmas.Bool.Decides.{Decides-int_eq}
use Rattle.std.proofs.lemmas.List.{length-append, length-drop}
use Rattle.words.specs.Reading.{◌>>=◌}
use Rattle.history_types.specs.declared.entry.Run.{Run}
use Rattle.history_types.specs.Fits.{IsRun, AreRuns}
use Rattle.pieces.specs.declared.refusal.PieceRefusal.{PieceRefusal}
use Rattle.pieces.specs.Word.{is_this, byte_at, spaces}
use Rattle.pieces.specs.Number.{digits, begins, Signed, count_at, is_absent}
use Rattle.pieces.specs.WordLaws.{stands_first, is_this_again, is_this_other, byte_again, no_space_first}
use Rattle.words.specs.Parts.{behind_is}
use Rattle.pieces.specs.NumberLaws.{no_digit_first, signed_again, count_again, not_absent, long_no_space}
use Rattle.history_log.specs.Runs.{run_text, next_run_text, runs_text, goes_on, first_of, first_at, run_at, runs_at}
use Rattle.history_log.proofs.RunsLemmas.{RunsFrom, no_runs, runs_begin, runs_on, runs_done}

-- ---- one run

-- a run that is printed is read, where the runs before it don't go on
run_again : (run : Run) (read : List Run) (input rest : List ℕ) (place : ℕ) → IsRun run → goes_on read run.first ≡ false → drop place input ≡ run_text run ++ rest → digits rest ≡ 0 → run_at input read place ≡ Ok (run, place + length (run_text run))
run_again run read input rest place is apart e none =
    let first = signed_decimal run.first in
    let count = signed_decimal run.count in
    let whole : drop place input ≡ first ++ (43 ∷ (count ++ rest)) = e ∙ append_assoc first (43 ∷ count) rest in
    let at_plus : drop (place + length first) input ≡ 43 ∷ (count ++ rest) = behind_is input place first (43 ∷ (count ++ rest)) whole in
    let at_count : drop (place + length first + 1) input ≡ count ++ rest = behind_is input (place + length first) (43 ∷ []) (count ++ rest) at_plus in
    let one : first_at input read place ≡ Ok (run.first, place + length first) = ap (λ (r : Result Signed PieceRefusal). r >>= first_of read) (signed_again run.first input (43 ∷ (count ++ rest)) place is.first whole (no_digit_first 43 (count ++ rest) refl)) in
    let plus : byte_at 43 input (place + length first) ≡ Ok (place + length first + 1) = byte_again 43 input (count ++ rest) (place + length first) at_plus in
    let two : count_at input (place + length first + 1) ≡ Ok (run.count, place + length first + 1 + length count) = count_again run.count input rest (place + length first + 1) is.some is.count at_count none in
    let size : place + length first + 1 + length count ≡ place + length (run_text run) = omega (arith, length-append first (43 ∷ count)) in
    rw (one, apart, plus, two, size) refl

-- the run that stands last tells whether they go on
goes_on_behind : (read : List Run) (run : Run) (first : ℤ) → goes_on (read ++ run ∷ []) first ≡ int_eq (run.first +ℤ run.count) first
unfolding goes_on
goes_on_behind [] run first = refl
goes_on_behind (one ∷ []) run first = refl
goes_on_behind (one ∷ other ∷ read) run first = goes_on_behind (other ∷ read) run first

-- runs that stay apart don't go on
apart_behind : (read : List Run) (run next : Run) → next.first ≢ (run.first +ℤ run.count) → goes_on (read ++ run ∷ []) next.first ≡ false
apart_behind read run next apart =
    goes_on_behind read run next.first ∙ false_from_ne_true (int_eq (run.first +ℤ run.count) next.first) (λ is. apart (sym ((Decides-int_eq (run.first +ℤ run.count) next.first).0 is)))

-- ---- all of them

-- something stands inside the text
inside : (input rest : List ℕ) (place : ℕ) → drop place input ≡ rest → 0 < length rest → place ≤ length input
inside input rest place e some = omega (arith, length-drop place input, ap length e)

-- the same runs up to the same place
same_end : (total : Result (List Run × ℕ) PieceRefusal) (runs others : List Run) (after place : ℕ) → total ≡ Ok (runs, after) → runs ≡ others → after ≡ place → total ≡ Ok (others, place)
same_end total runs others after place read runs_same place_same = rw (read, runs_same, place_same) refl

-- runs that are printed are read behind others, where those don't go on
runs_from_again : (run : Run) (runs read : List Run) (input rest : List ℕ) (place : ℕ) (total : Result (List Run × ℕ) PieceRefusal) → AreRuns (run ∷ runs) → goes_on read run.first ≡ false → drop place input ≡ runs_text (run ∷ runs) ++ 32 ∷ rest → RunsFrom input read place total
    → total ≡ Ok (read ++ run ∷ runs, place + length (runs_text (run ∷ runs)))
runs_from_again run [] read input rest place total are apart e from =
    let whole : drop place input ≡ run_text run ++ 32 ∷ rest = e ∙ append_assoc (run_text run) [] (32 ∷ rest) in
    let after = place + length (run_text run) in
    let one = run_again run read input (32 ∷ rest) place are apart whole (no_digit_first 32 rest refl) in
    let stop = is_this_other 44 32 input rest after (omega arith) (behind_is input place (run_text run) (32 ∷ rest) whole) in
    let within = inside input (run_text run ++ 32 ∷ rest) place whole (omega (arith, length-append (run_text run) (32 ∷ rest))) in
    let size : after ≡ place + length (runs_text (run ∷ [])) = omega (arith, length-append (run_text run) []) in
    runs_done input read place after run total from within one stop ∙ ap (λ (n : ℕ). Ok (read ++ run ∷ [], n)) size
runs_from_again run (next ∷ runs) read input rest place total are apart e from =
    let others = runs_text (next ∷ runs) in
    let whole : drop place input ≡ run_text run ++ 44 ∷ (others ++ 32 ∷ rest) = e ∙ append_assoc (run_text run) (44 ∷ others) (32 ∷ rest) in
    let after = place + length (run_text run) in
    let one = run_again run read input (44 ∷ (others ++ 32 ∷ rest)) place are.0 apart whole (no_digit_first 44 (others ++ 32 ∷ rest) refl) in
    let at_comma : drop after input ≡ 44 ∷ (others ++ 32 ∷ rest) = behind_is input place (run_text run) (44 ∷ (others ++ 32 ∷ rest)) whole in
    let comma = is_this_again 44 input (others ++ 32 ∷ rest) after at_comma in
    let at_next : drop (after + 1) input ≡ others ++ 32 ∷ rest = behind_is input after (44 ∷ []) (others ++ 32 ∷ rest) at_comma in
    let within = inside input (run_text run ++ 44 ∷ (others ++ 32 ∷ rest)) place whole (omega (arith, length-append (run_text run) (44 ∷ (others ++ 32 ∷ rest)))) in
    let on = runs_on input read place after run total from within (omega arith) one comma in
    let all = runs_from_again next runs (read ++ run ∷ []) input rest (after + 1) total are.2 (apart_behind read run next are.1) at_next on in
    let size : after + 1 + length others ≡ place + length (runs_text (run ∷ next ∷ runs)) = omega (arith, length-append (run_text run) (44 ∷ others)) in
    same_end total (read ++ run ∷ [] ++ next ∷ runs) (read ++ run ∷ next ∷ runs) (after + 1 + length others) (place + length (runs_text (run ∷ next ∷ runs))) all (append_assoc read (run ∷ []) (next ∷ runs)) size

-- no run goes on where none stands before it
none_before : (first : ℤ) → goes_on [] first ≡ false
unfolding goes_on
none_before first = refl

-- the first of the runs is one
first_run : (run : Run) (runs : List Run) → AreRuns (run ∷ runs) → IsRun run
first_run run [] are = are
first_run run (next ∷ runs) are = are.0

-- runs begin with their first id
first_id : (run : Run) (runs : List Run) (rest : List ℕ) → runs_text (run ∷ runs) ++ rest ≡ signed_decimal run.first ++ (43 ∷ (signed_decimal run.count ++ (flat_map next_run_text runs ++ rest)))
first_id run runs rest =
    append_assoc (run_text run) (flat_map next_run_text runs) rest ∙ append_assoc (signed_decimal run.first) (43 ∷ signed_decimal run.count) (flat_map next_run_text runs ++ rest)

-- runs that are printed are read, where a space stands behind them
pub runs_again : (runs : List Run) (input rest : List ℕ) (place : ℕ) → AreRuns runs → drop place input ≡ runs_text runs ++ 32 ∷ rest → runs_at input place ≡ Ok (runs, place + length (runs_text runs))
runs_again [] input rest place are e =
    let sign : is_this 45 (slice_get input place) ≡ true = is_this_again 45 input (32 ∷ rest) place e in
    let alone : begins (slice_get input (place + 1)) ≡ false = ap begins (stands_first 32 input rest (place + 1) (behind_is input place (45 ∷ []) (32 ∷ rest) e)) in
    let absent : is_absent input place ≡ true = rw (sign, alone) refl in
    no_runs input place absent
runs_again (run ∷ runs) input rest place are e =
    let there = not_absent run.first input (43 ∷ (signed_decimal run.count ++ (flat_map next_run_text runs ++ 32 ∷ rest))) place (first_run run runs are).first (e ∙ first_id run runs (32 ∷ rest)) in
    runs_from_again run runs [] input rest place (runs_at input place) are (none_before run.first) e (runs_begin input place there)

-- runs don't begin with a space
pub runs_no_space : (runs : List Run) (rest : List ℕ) → AreRuns runs → spaces (runs_text runs ++ rest) ≡ 0
runs_no_space [] rest are = no_space_first 45 rest (omega arith)
runs_no_space (run ∷ runs) rest are =
    ap spaces (first_id run runs rest) ∙ long_no_space run.first (43 ∷ (signed_decimal run.count ++ (flat_map next_run_text runs ++ rest))) (first_run run runs are).first
