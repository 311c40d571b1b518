-- Runs of ids in a text, run by run.
use Rattle.std.proofs.Common.{inl, inr, ◌≡◌, ℕ, suc, ◌+◌, ◌-◌, ◌≤◌, ◌<◌, ℤ, ◌+ℤ◌, Bool, true, false, List, [], ◌∷◌}
use Rattle.std.proofs.Common.{◌++◌, length, Option, Some, None, Result, Ok, Err, refl, sym, ap, ◌∙◌, arith}
use Rattle.std.specs.Prelude.{slice_get}
use Rattle.std.proofs.lemmas.Bool.{false≢true, cases_Bool}
use Rattle.std.specs.Ordering.{int_eq}
use Rattle.history_types.specs.declared.entry.Run.{Run}
use Rattle.pieces.specs.declared.refusal.PieceRefusal.{PieceRefusal}
use Rattle.pieces.specs.Word.{is_this}
use Rattle.pieces.specs.Number.{is_absent}
use Rattle.pieces.specs.WordLaws.{is_this_within}
use Rattle.pieces.specs.ManyLaws.{ManyFrom, many_from_start, many_on, many_done, many_refused}
use Rattle.history_log.specs.Runs.{goes_on, run_at, comma_at, runs_at}

-- ---- the last of the runs

-- where it ends by an id
abbrev ends_before : Option Run → ℤ → Bool
ends_before None first = false
ends_before (Some run) first = int_eq (run.first +ℤ run.count) first

-- the last of the runs tells whether they go on
by_last : (runs : List Run) (first : ℤ) → goes_on runs first ≡ ends_before (slice_get runs (length runs - 1)) first
unfolding goes_on
by_last [] first = refl
by_last (run ∷ []) first = refl
by_last (run ∷ next ∷ runs) first =
    let last : length (run ∷ next ∷ runs) - 1 ≡ suc (length (next ∷ runs) - 1) = omega arith in
    by_last (next ∷ runs) first ∙ sym (ap (λ (i : ℕ). ends_before (slice_get (run ∷ next ∷ runs) i) first) last)

-- no run is the last one
pub none_goes_on : (runs : List Run) (first : ℤ) → None ≡ slice_get runs (length runs - 1) → false ≡ goes_on runs first
none_goes_on runs first last = ap (λ (o : Option Run). ends_before o first) last ∙ sym (by_last runs first)

-- the last run
pub last_goes_on : (runs : List Run) (first : ℤ) (run : Run) (ends : Bool) → Some run ≡ slice_get runs (length runs - 1) → ends ≡ int_eq (run.first +ℤ run.count) first → ends ≡ goes_on runs first
last_goes_on runs first run ends last is = is ∙ (ap (λ (o : Option Run). ends_before o first) last ∙ sym (by_last runs first))

-- ---- run by run

-- reading on from here, behind these runs, is the total
abbrev pub RunsFrom : List ℕ → List Run → ℕ → Result (List Run × ℕ) PieceRefusal → Type 0
RunsFrom input read place total = ManyFrom (run_at input) (comma_at input) (length input) read place total

-- no minus sign stands there alone
pub no_runs : (input : List ℕ) (place : ℕ) → is_absent input place ≡ true → runs_at input place ≡ Ok ([], place + 1)
unfolding runs_at
no_runs input place absent = rw absent refl

-- the first run is still to come
pub runs_begin : (input : List ℕ) (place : ℕ) → is_absent input place ≡ false → RunsFrom input [] place (runs_at input place)
unfolding runs_at
runs_begin input place there = rw there (many_from_start (run_at input) (comma_at input) (length input) place)

-- the run behind those that were lent
pub run_behind : (input : List ℕ) (lent read : List Run) (place : ℕ) (result : Result (Run × ℕ) PieceRefusal) → lent ≡ read → result ≡ run_at input lent place → run_at input read place ≡ result
run_behind input lent read place result same h = sym (h ∙ ap (λ (runs : List Run). run_at input runs place) same)

-- a run was read, and a comma stands behind it
pub runs_on : (input : List ℕ) (read : List Run) (place after : ℕ) (run : Run)
    (total : Result (List Run × ℕ) PieceRefusal) → RunsFrom input read place total → place ≤ length input
    → place ≤ after → run_at input read place ≡ Ok (run, after) → is_this 44 (slice_get input after) ≡ true
    → RunsFrom input (read ++ run ∷ []) (after + 1) total
runs_on input read place after run total from within later one comma =
    let more : comma_at input after ≡ Ok (Some (after + 1)) = rw comma refl in
    many_on (run_at input) (comma_at input) (length input) read place total run after (after + 1) from within one more (omega arith)

-- the last run was read
pub runs_done : (input : List ℕ) (read : List Run) (place after : ℕ) (run : Run)
    (total : Result (List Run × ℕ) PieceRefusal) → RunsFrom input read place total → place ≤ length input
    → run_at input read place ≡ Ok (run, after) → is_this 44 (slice_get input after) ≡ false
    → total ≡ Ok (read ++ run ∷ [], after)
runs_done input read place after run total from within one stop =
    let last : comma_at input after ≡ Ok None = rw stop refl in
    many_done (run_at input) (comma_at input) (length input) read place total run after from within one last

-- the next run is refused
pub runs_refused : (input : List ℕ) (read : List Run) (place : ℕ) (refusal : PieceRefusal) (total : Result (List Run × ℕ) PieceRefusal) → RunsFrom input read place total → place ≤ length input → run_at input read place ≡ Err refusal → total ≡ Err refusal
runs_refused input read place refusal total from within one =
    many_refused (run_at input) (comma_at input) (length input) read place total refusal from within one

-- what is absent stands inside the text
pub absent_within : (input : List ℕ) (place : ℕ) → is_absent input place ≡ true → place < length input
absent_within input place absent =
    elim (cases_Bool (is_this 45 (slice_get input place))) [
      | inl sign ↦ is_this_within 45 input place sign
      | inr other ↦ let no : false ≡ true = rw other at absent in absurd (false≢true no)
    ]
