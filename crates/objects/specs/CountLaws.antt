-- Blocks have as many objects as their counts say together.
use Rattle.std.proofs.Common.{◌≡◌, ℕ, zero, suc, ◌+◌, true, false, List, [], ◌∷◌, ◌++◌, length, None, Ok, Err, refl}
use Rattle.std.proofs.Common.{ap, ◌∙◌, arith}
use Rattle.std.specs.Prelude.{◌==◌, Bool, Result, if◌then◌else◌}
use Rattle.std.proofs.lemmas.List.{length-append}
use Rattle.avro_container.specs.declared.container.Block.{Block}
use Rattle.objects.specs.Object.{Reader}
use Rattle.objects.specs.Stream.{Stream, refused, with_first}
use Rattle.objects.specs.Blocks.{block_from, count_of, count_all, blocks_from}
use Rattle.objects.specs.Held.{Hold}

-- without a fault the stream has so many objects, and then those after them
abbrev Counted : {V E : Type 0} → ℕ → Stream V E → Stream V E → Type 0
Counted left behind stream =
    stream.fault ≡ None → (behind.fault ≡ None) × (length stream.objects ≡ left + length behind.objects)

end_counted : {V E : Type 0} (ends : Bool) (rest : E) (behind : Stream V E)
    → Counted 0 behind (if ends then behind else refused rest)
end_counted true rest behind = λ right. (right, omega arith)
end_counted false rest behind = λ right. absurd cc

step_counted : {V E : Type 0} (taken : Result (V × ℕ) E) (others : ℕ → Stream V E) (left : ℕ) (behind : Stream V E)
    → ((after : ℕ) → Counted left behind (others after)) → Counted (suc left) behind (with_first taken others)
step_counted (Ok taken) others left behind each = λ right.
    let counted = each taken.1 right in
    (counted.0, omega (arith, counted.1))
step_counted (Err e) others left behind each = λ right. absurd cc

block_counted : {V E : Type 0} (read : Reader V E) (rest : E) (input : List ℕ) (behind : Stream V E) (left place : ℕ)
    → Counted left behind (block_from read rest input behind left place)
unfolding block_from
block_counted read rest input behind zero place = end_counted (place == length input) rest behind
block_counted read rest input behind (suc left) place =
    step_counted (read input place) (block_from read rest input behind left) left behind
    (block_counted read rest input behind left)

-- without a fault there are as many objects as the counts of the blocks say together
pub objects_counted : {V E : Type 0} (read : Reader V E) (rest : ℕ → E) (blocks : List Block) (number : ℕ)
    → (blocks_from read rest number blocks).fault ≡ None
    → length (blocks_from read rest number blocks).objects ≡ count_all blocks
unfolding blocks_from
objects_counted read rest [] number right = refl
objects_counted read rest (block ∷ blocks) number right =
    let behind = blocks_from read rest (number + 1) blocks in
    let counted = block_counted read (rest number) block.bytes behind (count_of block) 0 right in
    counted.1 ∙ ap (λ (n : ℕ). count_of block + n) (objects_counted read rest blocks (number + 1) counted.0)

-- blocks hold as many objects as their counts say together
pub held_counted : {V : Type 0} (Spells : V → List ℕ → Type 0) (blocks : List Block) (objects : List V)
    → Hold Spells blocks objects → length objects ≡ count_all blocks
held_counted Spells [] objects holds = ap length holds
held_counted Spells (block ∷ blocks) objects holds =
    let others = held_counted Spells blocks holds.rest holds.others in
    omega (arith, ap length holds.parts, length-append holds.front holds.rest, holds.first.many, others)
