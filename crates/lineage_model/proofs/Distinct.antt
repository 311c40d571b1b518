-- Ids that differ, each from each later one.
use Rattle.std.proofs.Common.{◌≡◌, ◌≢◌, ℕ, zero, suc, ◌+◌, ◌-◌, ◌<◌, ℤ, ◌<ℤ◌, int_lt, true, List, [], ◌∷◌, ◌++◌}
use Rattle.std.proofs.Common.{length, get_or, All, AllPairs, Less, int_cmp, refl, sym, inl, inr, arith, length-append}
use Rattle.std.specs.List.Sorted.{IsStrictlySortedBy}
use Rattle.std.proofs.lemmas.Bool.{and_parts, cases_lt}
use Rattle.std.proofs.lemmas.Cmp.{int_cmp_total, int_ranked}
use Rattle.std.proofs.lemmas.Int.{ints}
use Rattle.std.proofs.lemmas.List.{get_or_append_left, get_or-append_right, get_or-append-add}
use Rattle.std.proofs.lemmas.Map.Keys.{Less-from_sorted, sorted_from_all_adjacent}
use Rattle.lineage_model.specs.Ids.{is_rising}

-- a number that compares less differs
less_differs : (x y : ℤ) → int_cmp x y ≡ Less → x ≢ y
less_differs x y less same =
    let below : x <ℤ y = int_ranked x y Less (sym less) in
    absurd (omega (arith, ints))

-- keys in order differ
pub distinct_from_sorted : (ids : List ℤ) → IsStrictlySortedBy int_cmp ids → AllPairs (λ a b. a ≢ b) ids
distinct_from_sorted ids sorted i j d before within =
    less_differs (get_or ids i d) (get_or ids j d) (Less-from_sorted int_cmp ids i j d sorted before within)

-- of ids that rise, each is below the next one
rising_at : (ids : List ℤ) (k : ℕ) (d : ℤ) → is_rising ids ≡ true → k + 1 < length ids → int_lt (get_or ids k d) (get_or ids (k + 1) d) ≡ true
unfolding is_rising
rising_at [] k d rising within = absurd (omega arith)
rising_at (id ∷ []) k d rising within = absurd (omega arith)
rising_at (id ∷ next ∷ ids) zero d rising within = (and_parts _ _ rising).0
rising_at (id ∷ next ∷ ids) (suc k) d rising within =
    let step : suc k + 1 ≡ suc (k + 1) = omega arith in
    let more : k + 1 < length (next ∷ ids) = omega arith in
    let later : int_lt (get_or (next ∷ ids) k d) (get_or (next ∷ ids) (k + 1) d) ≡ true = rising_at (next ∷ ids) k d (and_parts _ _ rising).1 more in
    rw step later

-- ids that rise are in order
sorted_from_rising : (ids : List ℤ) (d : ℤ) → is_rising ids ≡ true → IsStrictlySortedBy int_cmp ids
sorted_from_rising ids d rising = sorted_from_all_adjacent int_cmp_total ids d (λ k within. rw (rising_at ids k d rising within) refl)

-- ids that rise differ
pub distinct_from_rising : (ids : List ℤ) → is_rising ids ≡ true → AllPairs (λ a b. a ≢ b) ids
distinct_from_rising ids rising i j d = distinct_from_sorted ids (sorted_from_rising ids d rising) i j d

-- two lists, one behind the other
pub all_pairs_append : {X : Type 0} (R : X → X → Type 0) (xs ys : List X) → AllPairs R xs → AllPairs R ys → All (λ x. All (λ y. R x y) ys) xs → AllPairs R (xs ++ ys)
all_pairs_append R xs ys first second across i j d before within =
    let both : length (xs ++ ys) ≡ length xs + length ys = length-append xs ys in
    elim (cases_lt j (length xs)) [
      | inl in_first ↦ rw (get_or_append_left xs ys d i (omega arith), get_or_append_left xs ys d j in_first) (first i j d before in_first)
      | inr in_second ↦
          let there = get_or-append_right xs ys (length xs) j d refl in_second in
          elim (cases_lt i (length xs)) [
            | inl here ↦ rw (there, get_or_append_left xs ys d i here) (across i d here (j - length xs) d (omega arith))
            | inr behind ↦ rw (there, get_or-append_right xs ys (length xs) i d refl behind) (second (i - length xs) (j - length xs) d (omega arith) (omega arith))
          ]
    ]

-- what holds of two lists, one behind the other, holds of the first
pub All-first : {X : Type 0} (P : X → Type 0) (xs ys : List X) → All P (xs ++ ys) → All P xs
All-first P xs ys all k d within =
    let there : k < length (xs ++ ys) = omega (arith, length-append xs ys) in
    rw (get_or_append_left xs ys d k within) at (all k d there)

-- so it does of the second
pub All-second : {X : Type 0} (P : X → Type 0) (xs ys : List X) → All P (xs ++ ys) → All P ys
All-second P xs ys all k d within =
    let there : length xs + k < length (xs ++ ys) = omega (arith, length-append xs ys) in
    rw (get_or-append-add xs ys k d) at (all (length xs + k) d there)
