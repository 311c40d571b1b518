-- The ids of runs, run by run and one by one.
use Rattle.std.proofs.Common.{◌≡◌, ℕ, zero, suc, ◌+◌, ◌^◌, ◌<◌, ◌≤◌, ℤ, pos, negsuc, ◌+ℤ◌, ◌-ℤ◌, ◌<ℤ◌, ◌≤ℤ◌, List, []}
use Rattle.std.proofs.Common.{◌∷◌, ◌++◌, length, get_or, drop, refl, sym, subst, ap, ◌∙◌, arith, length-append}
use Rattle.std.specs.Int.{w64}
use Rattle.std.specs.Int.RustNames.{FitsSigned}
use Rattle.std.specs.List.{All}
use Rattle.std.proofs.lemmas.Int.{ints}
use Rattle.std.proofs.lemmas.List.{at_drop_more, at_drop_all}
use Rattle.history_types.specs.declared.entry.Run.{Run}
use Rattle.lineage_model.specs.Ids.{ids_from, how_many, ids_of_run, ids_of}

-- a run of no ids
pub none_of_run : (next left : ℤ) → left ≤ℤ pos 0 → ids_from next (how_many left) ≡ []
unfolding ids_from
none_of_run next (pos zero) few = refl
none_of_run next (pos (suc n)) few = absurd (omega (arith, ints))
none_of_run next (negsuc n) few = refl

-- the first id of a run
pub first_of_run : (next left : ℤ) → pos 0 <ℤ left → ids_from next (how_many left) ≡ next ∷ ids_from (next +ℤ pos 1) (how_many (left -ℤ pos 1))
unfolding ids_from
first_of_run next (pos zero) some = absurd (omega (arith, ints))
first_of_run next (pos (suc n)) some =
    let fewer : pos (suc n) -ℤ pos 1 ≡ pos n = omega (arith, ints) in
    rw fewer refl
first_of_run next (negsuc n) some = absurd (omega (arith, ints))

-- how many ids a run has
pub length-ids_from : (first : ℤ) (count : ℕ) → length (ids_from first count) ≡ count
unfolding ids_from
length-ids_from first zero = refl
length-ids_from first (suc count) = ap suc (length-ids_from (first +ℤ pos 1) count)

-- the ids from the run at a place on
pub next_run : (runs : List Run) (place : ℕ) (d : Run) → place < length runs → ids_of (drop place runs) ≡ ids_of_run (get_or runs place d) ++ ids_of (drop (place + 1) runs)
next_run runs place d within = at_drop_more ids_of runs place d within

-- how many those are
pub next_count : (runs : List Run) (place : ℕ) (d : Run) → place < length runs → length (ids_of (drop place runs)) ≡ how_many (get_or runs place d).count + length (ids_of (drop (place + 1) runs))
next_count runs place d within =
    let run = get_or runs place d in
    omega (arith, ap length (next_run runs place d within), length-append (ids_of_run run) (ids_of (drop (place + 1) runs)), length-ids_from run.first (how_many run.count))

-- ---- ids one by one

-- an empty run makes room for the next one
pub loads : (next left : ℤ) (runs : List Run) (place : ℕ) (d : Run) (all : List ℤ) → left ≤ℤ pos 0 → place < length runs → ids_from next (how_many left) ++ ids_of (drop place runs) ≡ all
    → ids_from (get_or runs place d).first (how_many (get_or runs place d).count) ++ ids_of (drop (place + 1) runs) ≡ all
loads next left runs place d all few within so_far =
    let behind : ids_of (drop place runs) ≡ all = ap (λ (ids : List ℤ). ids ++ ids_of (drop place runs)) (sym (none_of_run next left few)) ∙ so_far in
    sym (next_run runs place d within) ∙ behind

-- behind the last run there is none
pub no_more : (next left : ℤ) (runs : List Run) (place : ℕ) (all : List ℤ) → left ≤ℤ pos 0 → length runs ≤ place → ids_from next (how_many left) ++ ids_of (drop place runs) ≡ all → all ≡ []
no_more next left runs place all few past so_far =
    sym so_far ∙ (ap (λ (ids : List ℤ). ids ++ ids_of (drop place runs)) (none_of_run next left few) ∙ at_drop_all ids_of runs place past)

-- the id that is taken, and those behind it
pub takes : (next left : ℤ) (rest all : List ℤ) → pos 0 <ℤ left → ids_from next (how_many left) ++ rest ≡ all → all ≡ next ∷ (ids_from (next +ℤ pos 1) (how_many (left -ℤ pos 1)) ++ rest)
takes next left rest all some so_far = sym so_far ∙ ap (λ (ids : List ℤ). ids ++ rest) (first_of_run next left some)

-- the same for the last id of a run
pub takes_last : (next left : ℤ) (rest all : List ℤ) → pos 0 <ℤ left → (left -ℤ pos 1) ≤ℤ pos 0 → ids_from next (how_many left) ++ rest ≡ all → all ≡ next ∷ (ids_from next (how_many (left -ℤ pos 1)) ++ rest)
takes_last next left rest all some last so_far =
    takes next left rest all some so_far ∙ ap (λ (ids : List ℤ). next ∷ (ids ++ rest)) (none_of_run (next +ℤ pos 1) (left -ℤ pos 1) last ∙ sym (none_of_run next (left -ℤ pos 1) last))

-- the id behind one is a number of 64 bits where all are below the end of those
pub next_fits : (next left : ℤ) (rest all : List ℤ) → pos 0 <ℤ (left -ℤ pos 1) → FitsSigned w64 next → ids_from next (how_many left) ++ rest ≡ all → All (λ id. id <ℤ pos (2 ^ 63)) all → FitsSigned w64 (next +ℤ pos 1)
next_fits next left rest all more here so_far fits =
    let later = next +ℤ pos 1 in
    let fewer = left -ℤ pos 1 in
    let whole : all ≡ next ∷ (later ∷ (ids_from (later +ℤ pos 1) (how_many (fewer -ℤ pos 1)) ++ rest)) = takes next left rest all (omega (arith, ints)) so_far ∙ ap (λ (ids : List ℤ). next ∷ (ids ++ rest)) (first_of_run later fewer more) in
    let all_fit : All (λ id. id <ℤ pos (2 ^ 63)) (next ∷ (later ∷ (ids_from (later +ℤ pos 1) (how_many (fewer -ℤ pos 1)) ++ rest))) = subst (λ (ids : List ℤ). All (λ id. id <ℤ pos (2 ^ 63)) ids) whole fits in
    let below : later <ℤ pos (2 ^ 63) = all_fit 1 next (omega arith) in
    omega (arith, ints)
