-- The number behind a run of ids that rise, and a loop over runs by it.
use Rattle.std.proofs.Common.{◌≡◌, ℕ, zero, suc, ◌+◌, ◌^◌, ◌<◌, ◌≤◌, ℤ, pos, negsuc, ◌+ℤ◌, ◌<ℤ◌, ◌≤ℤ◌, false, List}
use Rattle.std.proofs.Common.{[], ◌++◌, length, get_or, drop, refl, sym, ap, ◌∙◌, arith, append_assoc, append-nil}
use Rattle.std.specs.Prelude.{int_lt, not}
use Rattle.std.specs.declared.option.Option.TheVariants.{None, Some}
use Rattle.std.specs.Int.{w64}
use lib.Signed.{le_z}
use Rattle.std.specs.Int.RustNames.{FitsSigned}
use Rattle.std.specs.Option.{SomeIff}
use Rattle.std.specs.declared.option.Option.{Option}
use Rattle.std.proofs.lemmas.Int.{ints, by_lt_z}
use Rattle.std.proofs.lemmas.List.{at_drop_all}
use Rattle.history_types.specs.declared.entry.Run.{Run}
use Rattle.lineage_model.specs.Ids.{ids_from, how_many, ids_of_run, ids_of}
use Rattle.history_log.specs.Ids.{rise_within, rise_behind}
use Rattle.history_log.proofs.IdsLemmas.{none_of_run, first_of_run, next_run}
use Rattle.history_log.proofs.RisingLemmas.{below_from, same_tests, too_high}

-- a run of no ids leaves the floor
pub behind_none : (floor high first count : ℤ) (rest : List ℤ) → count ≤ℤ pos 0 → rise_within floor high (ids_from first (how_many count) ++ rest) ≡ rise_within floor high rest
behind_none floor high first count rest few = ap (λ (ids : List ℤ). rise_within floor high (ids ++ rest)) (none_of_run first count few)

-- a run below the floor doesn't rise
pub behind_below : (floor high first count : ℤ) (rest : List ℤ) → pos 0 <ℤ count → first <ℤ floor → rise_within floor high (ids_from first (how_many count) ++ rest) ≡ false
behind_below floor high first count rest some below =
    ap (λ (ids : List ℤ). rise_within floor high (ids ++ rest)) (first_of_run first count some) ∙ (rw (below_from first floor below) refl)

-- a run from the floor on leaves the number behind it
from_floor : (high first : ℤ) (count : ℕ) (rest : List ℤ) → rise_within (first +ℤ pos 1) high (ids_from (first +ℤ pos 1) count ++ rest) ≡ rise_within (first +ℤ pos (suc count)) high rest
unfolding ids_from
from_floor high first zero rest = refl
from_floor high first (suc count) rest =
    let next = first +ℤ pos 1 in
    let on : int_lt (first +ℤ pos 1) (first +ℤ pos 1) ≡ false = grind (arith, ints) in
    let behind : (first +ℤ pos 1) +ℤ pos (suc count) ≡ first +ℤ pos (suc (suc count)) = omega (arith, ints) in
    rw on (from_floor high next count rest ∙ ap (λ (floor : ℤ). rise_within floor high rest) behind)

pub behind_run : (floor high first count : ℤ) (rest : List ℤ) → pos 0 <ℤ count → floor ≤ℤ first → rise_within floor high (ids_from first (how_many count) ++ rest) ≡ rise_within (first +ℤ count) high rest
unfolding ids_from
behind_run floor high first (pos zero) rest some on = absurd (omega (arith, ints))
behind_run floor high first (pos (suc count)) rest some on =
    let right : int_lt first floor ≡ false = grind (arith, ints) in
    rw right (from_floor high first count rest)
behind_run floor high first (negsuc count) rest some on = absurd (omega (arith, ints))

-- one that passes the largest number of 64 bits rises to below none of those
pub behind_too_far : (floor high : ℤ) (rest : List ℤ) → high <ℤ pos (2 ^ 63) → pos (2 ^ 63) ≤ℤ floor → rise_within floor high rest ≡ false
behind_too_far floor high rest top far = too_high floor high rest (omega (arith, ints))

-- the number behind a run, where it is a number of 64 bits
pub behind_sum : (result : Option ℤ) (first count high : ℤ) (rest : List ℤ) → high <ℤ pos (2 ^ 63) → pos 0 <ℤ count → FitsSigned w64 first → SomeIff result (FitsSigned w64 (first +ℤ count)) (first +ℤ count)
    → rise_within (first +ℤ count) high rest ≡ rise_behind result high rest
behind_sum None first count high rest top some fits sum =
    by_lt_z (first +ℤ count) (pos (2 ^ 63)) (λ small. absurd (sum (omega (arith, ints)))) (λ far. behind_too_far (first +ℤ count) high rest top far)
behind_sum (Some behind) first count high rest top some fits sum = ap (λ (floor : ℤ). rise_within floor high rest) (sym sum.1)

-- a loop over runs: the number behind the runs so far, and the ids of those that are left
pub goes_on : (low floor : ℤ) (result : Option ℤ) (runs : List Run) (place : ℕ) (d : Run) (high : ℤ) (rest : List ℤ) → place < length runs
    → rise_within low high (ids_of runs ++ rest) ≡ rise_within floor high (ids_of (drop place runs) ++ rest)
    → rise_within floor high (ids_of_run (get_or runs place d) ++ (ids_of (drop (place + 1) runs) ++ rest)) ≡ rise_behind result high (ids_of (drop (place + 1) runs) ++ rest)
    → rise_within low high (ids_of runs ++ rest) ≡ rise_behind result high (ids_of (drop (place + 1) runs) ++ rest)
goes_on low floor result runs place d high rest within so_far step =
    let next : ids_of (drop place runs) ++ rest ≡ ids_of_run (get_or runs place d) ++ (ids_of (drop (place + 1) runs) ++ rest) = ap (λ (ids : List ℤ). ids ++ rest) (next_run runs place d within) ∙ append_assoc (ids_of_run (get_or runs place d)) (ids_of (drop (place + 1) runs)) rest in
    so_far ∙ (ap (rise_within floor high) next ∙ step)

-- at its end no ids are left
pub ends : (runs : List Run) (place : ℕ) (rest : List ℤ) → length runs ≤ place → ids_of (drop place runs) ++ rest ≡ rest
ends runs place rest past = ap (λ (ids : List ℤ). ids ++ rest) (at_drop_all ids_of runs place past)

-- two lists of ids, the second behind the first: one refused, or all the way to the high number
pub refused_second : (low middle high : ℤ) (named given : List ℤ) → rise_within low high (named ++ given) ≡ rise_within middle high given → rise_within middle high (given ++ []) ≡ false → rise_within low high (named ++ given) ≡ false
refused_second low middle high named given first second = first ∙ (ap (rise_within middle high) (sym (append-nil given)) ∙ second)

pub both_rise : (low middle last high : ℤ) (named given : List ℤ) → rise_within low high (named ++ given) ≡ rise_within middle high given → rise_within middle high (given ++ []) ≡ rise_within last high [] → le_z last high ≡ rise_within low high (named ++ given)
both_rise low middle last high named given first second =
    let test : le_z last high ≡ not (int_lt high last) = same_tests _ _ (λ e. grind (arith, ints)) (λ e. grind (arith, ints)) in
    test ∙ sym (first ∙ (ap (rise_within middle high) (sym (append-nil given)) ∙ second))
