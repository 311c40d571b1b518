-- Reading the blocks of the header's map one after the other, as a loop does.
use Rattle.std.proofs.Common.{◌≡◌, ℕ, suc, ◌+◌, ◌-◌, ◌<◌, ◌≤◌, true, false, List, Result, Ok, Err, refl, sym, ◌∙◌}
use Rattle.std.proofs.Common.{arith}
use Rattle.std.specs.Prelude.{ℤ, pos, negsuc}
use Rattle.std.specs.Int.{w64}
use Rattle.std.proofs.Common.{of_z, SFits, eq-eqb}
use Rattle.std.proofs.lemmas.Bool.{ne_eqb}
use Rattle.avro_container.specs.declared.refusal.ContainerRefusal.{ContainerRefusal}
use Rattle.avro_container.specs.Header.{Pair, is_natural, map_number_at, map_block_at, map_at}

-- what reading the map answers
abbrev Answer : Type 0
Answer = Result (List Pair × ℕ) ContainerRefusal

-- a step is left of those that are tried
one_left : (tries i : ℕ) → i < tries → tries - i ≡ suc (tries - (i + 1))
one_left tries i lt = omega arith

-- a count is refused
pub map_fails : (tries i : ℕ) (pairs : List Pair) (input : List ℕ) (at : ℕ) (e : ContainerRefusal) (total : Answer) → i < tries → map_number_at input at ≡ Err e
    → map_at (tries - i) pairs input at ≡ total → total ≡ Err e
unfolding map_at
map_fails tries i pairs input at e total lt count so_far = sym so_far ∙ rw (one_left tries i lt, count) refl

-- the count is 0
pub map_ends : (tries i : ℕ) (pairs : List Pair) (input : List ℕ) (at : ℕ) (count : ℤ) (start : ℕ) (total : Answer)
    → i < tries → map_number_at input at ≡ Ok (count, start) → is_natural count 0 ≡ true
    → map_at (tries - i) pairs input at ≡ total → total ≡ Ok (pairs, start)
unfolding map_at
map_ends tries i pairs input at count start total lt read none so_far = sym so_far ∙ rw (one_left tries i lt, read, none) refl

-- the block behind the count is refused
pub block_fails : (tries i : ℕ) (pairs : List Pair) (input : List ℕ) (at : ℕ) (count : ℤ) (start : ℕ)
    (e : ContainerRefusal) (total : Answer) → i < tries → map_number_at input at ≡ Ok (count, start)
    → is_natural count 0 ≡ false
    → map_block_at at pairs input (count, start) ≡ Err e → map_at (tries - i) pairs input at ≡ total → total ≡ Err e
unfolding map_at
block_fails tries i pairs input at count start e total lt read some block so_far = sym so_far ∙ rw (one_left tries i lt, read, some, block) refl

-- the block is read, and the map goes on
pub map_goes_on : (tries i : ℕ) (pairs more : List Pair) (input : List ℕ) (at : ℕ) (count : ℤ) (start after : ℕ)
    (total : Answer) → i < tries → map_number_at input at ≡ Ok (count, start) → is_natural count 0 ≡ false
    → map_block_at at pairs input (count, start) ≡ Ok (more, after) → map_at (tries - i) pairs input at ≡ total → map_at (tries - (i + 1)) more input after ≡ total
unfolding map_at
map_goes_on tries i pairs more input at count start after total lt read some block so_far =
    let one : map_at (tries - i) pairs input at ≡ map_at (tries - (i + 1)) more input after = rw (one_left tries i lt, read, some, block) refl in
    sym one ∙ so_far

-- no more blocks are tried
pub map_stops : (tries i : ℕ) (pairs : List Pair) (input : List ℕ) (at : ℕ) (total : Answer) → tries ≤ i
    → map_at (tries - i) pairs input at ≡ total → total ≡ Ok (pairs, at)
unfolding map_at
map_stops tries i pairs input at total le so_far =
    let none : tries - i ≡ 0 = omega arith in
    sym so_far ∙ rw none refl

-- a count whose bits are 0 is 0
pub is_zero : (count : ℤ) → SFits w64 count → of_z w64 count ≡ 0 → is_natural count 0 ≡ true
is_zero (pos n) fits none = eq-eqb n 0 none
is_zero (negsuc n) fits none = absurd (omega (arith, fits.sfits))

-- one whose bits aren't 0 is another
pub is_not_zero : (count : ℤ) → (of_z w64 count ≡ 0 → ⊥) → is_natural count 0 ≡ false
is_not_zero (pos n) some = ne_eqb n 0 some
is_not_zero (negsuc n) some = refl
