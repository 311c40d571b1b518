-- Runs in their one spelling: one more at the end.
use Rattle.std.proofs.Common.{◌≡◌, ℤ, pos, ◌+ℤ◌, ◌≤ℤ◌, true, false, not, Option, Some, None, IfSome, List, [], ◌∷◌}
use Rattle.std.proofs.Common.{◌++◌, ap, sym, subst, ◌∙◌, arith, w64, SFits}
use Rattle.std.specs.Prelude.{int_lt, ◌^◌, ◌-◌, negsuc}
use Rattle.std.proofs.lemmas.Bool.{and_from, false≢true}
use Rattle.std.proofs.lemmas.Bool.Decides.{Decides-int_eq}
use Rattle.std.proofs.lemmas.Int.{ints}
use Rattle.history_types.specs.declared.entry.Run.{Run}
use Rattle.row_types.specs.Fits.{is_long}
use Rattle.history_types.specs.Fits.{IsRun, AreRuns}
use Rattle.history_log.specs.Runs.{goes_on}

-- a number of the machine's 64 bits is one
pub is_long_there : (number : ℤ) → SFits w64 number → is_long number ≡ true
is_long_there number fits =
    let low : int_lt number (negsuc (2 ^ 63 - 1)) ≡ false = grind (arith, ints) in
    let high : int_lt number (pos (2 ^ 63)) ≡ true = grind (arith, ints) in
    and_from _ _ (ap not low) high

-- so is one, if there is one
pub long_or_none : (number : Option ℤ) → IfSome number (λ n. SFits w64 n) → IfSome number (λ n. is_long n ≡ true)
long_or_none None fits = tt
long_or_none (Some n) fits = is_long_there n fits

-- a run of such numbers, with ids
pub is_run : (run : Run) → SFits w64 run.first → SFits w64 run.count → pos 1 ≤ℤ run.count → IsRun run
is_run run first count some = record { first = is_long_there run.first first; some = some; count = is_long_there run.count count }

-- a run at which the last one does not go on stays a run of its own
pub runs_more : (runs : List Run) (run : Run) → AreRuns runs → IsRun run → goes_on runs run.first ≡ false → AreRuns (runs ++ run ∷ [])
unfolding goes_on
runs_more [] run are is apart = is
runs_more (last ∷ []) run are is apart = (are, (λ equal. false≢true (sym apart ∙ (Decides-int_eq (last.first +ℤ last.count) run.first).1 (sym equal))), is)
runs_more (first ∷ next ∷ runs) run are is apart = (are.0, are.1, runs_more (next ∷ runs) run are.2 is apart)

-- the same of a list that was lent, and of the grown one
pub more_runs : (runs lent new : List Run) (run : Run) → AreRuns runs → lent ≡ runs → IsRun run → goes_on lent run.first ≡ false → new ≡ runs ++ run ∷ [] → AreRuns new
more_runs runs lent new run are same is apart grown = subst AreRuns (sym grown) (runs_more runs run are is (subst (λ (list : List Run). goes_on list run.first ≡ false) same apart))
