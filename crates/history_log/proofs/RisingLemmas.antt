-- Ids that rise from one number on to below another: the definition, and the test from the first one on.
use Rattle.std.proofs.Common.{◌≡◌, ℤ, pos, ◌+ℤ◌, ◌<ℤ◌, ◌≤ℤ◌, Bool, true, false, List, [], ◌∷◌, refl, sym, arith, inl}
use Rattle.std.proofs.Common.{inr}
use Rattle.std.specs.Prelude.{int_lt, not, ◌&&◌}
use Rattle.std.specs.declared.option.Option.TheVariants.{Some}
use Rattle.std.specs.List.{list_all}
use Rattle.std.proofs.lemmas.Bool.{cases_Bool, and_parts, and_from}
use Rattle.std.proofs.lemmas.Int.{ints}
use Rattle.lineage_model.specs.Ids.{is_rising}
use Rattle.lineage_model.specs.Opening.{is_between}
use Rattle.lineage_model.specs.Step.{are_fresh}
use Rattle.history_log.specs.Ids.{rise_within}

not_below : (a b : ℤ) → int_lt a b ≡ false → b ≤ℤ a
not_below a b h = grind (arith, ints)

not_below_from : (a b : ℤ) → b ≤ℤ a → not (int_lt a b) ≡ true
not_below_from a b h = grind (arith, ints)

not_below_to : (a b : ℤ) → not (int_lt a b) ≡ true → b ≤ℤ a
not_below_to a b h = grind (arith, ints)

pub below_from : (a b : ℤ) → a <ℤ b → int_lt a b ≡ true
below_from a b h = grind (arith, ints)

pub below_to : (a b : ℤ) → int_lt a b ≡ true → a <ℤ b
below_to a b h = grind (arith, ints)

-- two tests that follow from one another
pub same_tests : (a b : Bool) → (a ≡ true → b ≡ true) → (b ≡ true → a ≡ true) → a ≡ b
same_tests true b there back = sym (there refl)
same_tests false true there back = back refl
same_tests false false there back = refl

-- no ids rise from above the high number
pub too_high : (floor high : ℤ) (ids : List ℤ) → high <ℤ floor → rise_within floor high ids ≡ false
too_high floor high [] above = rw (below_from high floor above) refl
too_high floor high (id ∷ ids) above =
    elim (cases_Bool (int_lt id floor)) [
      | inl below ↦ rw below refl
      | inr right ↦
          let on : floor ≤ℤ id = not_below id floor right in
          rw (right, too_high (id +ℤ pos 1) high ids (omega (arith, ints))) refl
    ]

-- ids from a number on are from a lower one on
all_from_lower : (low floor high : ℤ) (ids : List ℤ) → low ≤ℤ floor → list_all (is_between floor high) ids ≡ true → list_all (is_between low high) ids ≡ true
all_from_lower low floor high [] lower all = refl
all_from_lower low floor high (id ∷ ids) lower all =
    let parts = and_parts (is_between floor high id) (list_all (is_between floor high) ids) all in
    let between = and_parts (not (int_lt id floor)) (int_lt id high) parts.0 in
    let on : floor ≤ℤ id = not_below_to id floor between.0 in
    and_from _ _ (and_from _ _ (not_below_from id low (omega (arith, ints))) between.1) (all_from_lower low floor high ids lower parts.1)

-- an id below those that rise rises with them
rises_with : (id high : ℤ) (ids : List ℤ) → is_rising ids ≡ true → list_all (is_between (id +ℤ pos 1) high) ids ≡ true → is_rising (id ∷ ids) ≡ true
unfolding is_rising
rises_with id high [] rising all = refl
rises_with id high (next ∷ ids) rising all =
    let parts = and_parts (is_between (id +ℤ pos 1) high next) (list_all (is_between (id +ℤ pos 1) high) ids) all in
    let on : (id +ℤ pos 1) ≤ℤ next = not_below_to _ _ (and_parts (not (int_lt next (id +ℤ pos 1))) (int_lt next high) parts.0).0 in
    and_from _ _ (below_from id next (omega (arith, ints))) rising

-- those that rise from an id on are above it
above_first : (low id high : ℤ) (ids : List ℤ) → is_rising (id ∷ ids) ≡ true → list_all (is_between low high) ids ≡ true → (is_rising ids ≡ true) × (list_all (is_between (id +ℤ pos 1) high) ids ≡ true)
unfolding is_rising
above_first low id high [] rising all = (refl, refl)
above_first low id high (next ∷ ids) rising all =
    let steps = and_parts (int_lt id next) (is_rising (next ∷ ids)) rising in
    let parts = and_parts (is_between low high next) (list_all (is_between low high) ids) all in
    let below_high = (and_parts (not (int_lt next low)) (int_lt next high) parts.0).1 in
    let over : id <ℤ next = below_to id next steps.0 in
    let later = above_first low next high ids steps.1 parts.1 in
    let on : (id +ℤ pos 1) ≤ℤ (next +ℤ pos 1) = omega (arith, ints) in
    (steps.1, and_from _ _ (and_from _ _ (not_below_from next (id +ℤ pos 1) (omega (arith, ints))) below_high) (all_from_lower (id +ℤ pos 1) (next +ℤ pos 1) high ids on later.1))

-- ids that rise from the floor on to below the high number
risen : (floor high : ℤ) (ids : List ℤ) → rise_within floor high ids ≡ true → (is_rising ids ≡ true) × (list_all (is_between floor high) ids ≡ true) × (floor ≤ℤ high)
unfolding is_rising
risen floor high [] rises = (refl, refl, not_below_to high floor rises)
risen floor high (id ∷ ids) rises =
    let parts = and_parts (not (int_lt id floor)) (rise_within (id +ℤ pos 1) high ids) rises in
    let on : floor ≤ℤ id = not_below_to id floor parts.0 in
    let later = risen (id +ℤ pos 1) high ids parts.1 in
    let top : (id +ℤ pos 1) ≤ℤ high = later.2 in
    let here : is_between floor high id ≡ true = and_from _ _ parts.0 (below_from id high (omega (arith, ints))) in
    (rises_with id high ids later.0 later.1, and_from _ _ here (all_from_lower floor (id +ℤ pos 1) high ids (omega (arith, ints)) later.1), omega (arith, ints))

rises : (floor high : ℤ) (ids : List ℤ) → is_rising ids ≡ true → list_all (is_between floor high) ids ≡ true → floor ≤ℤ high → rise_within floor high ids ≡ true
rises floor high [] rising all top = not_below_from high floor top
rises floor high (id ∷ ids) rising all top =
    let parts = and_parts (is_between floor high id) (list_all (is_between floor high) ids) all in
    let here = and_parts (not (int_lt id floor)) (int_lt id high) parts.0 in
    let below : id <ℤ high = below_to id high here.1 in
    let later = above_first floor id high ids rising parts.1 in
    and_from _ _ here.0 (rises (id +ℤ pos 1) high ids later.0 later.1 (omega (arith, ints)))

-- ids are fresh just where they rise within the two numbers
pub fresh_as_risen : (low high : ℤ) (ids : List ℤ) → are_fresh (Some low) (Some high) ids ≡ rise_within low high ids
fresh_as_risen low high ids =
    same_tests _ _
    (λ fresh.
    let two = and_parts (is_rising ids && list_all (is_between low high) ids) (not (int_lt high low)) fresh in
    let parts = and_parts (is_rising ids) (list_all (is_between low high) ids) two.0 in
    rises low high ids parts.0 parts.1 (not_below_to high low two.1))
    (λ within.
    let all = risen low high ids within in
    and_from _ _ (and_from _ _ all.0 all.1) (not_below_from high low all.2))
