-- The objects of a container's blocks, in order, up to the first refusal.
-- Avro 1.11, "Object Container Files".
use Rattle.std.specs.Prelude.{ℕ, zero, suc, ◌+◌, ◌==◌, ℤ, pos, negsuc, List, [], ◌∷◌, length, Result, if◌then◌else◌}
use Rattle.avro_container.specs.declared.container.Block.{Block}
use Rattle.objects.specs.Object.{Reader}
use Rattle.objects.specs.Stream.{Stream, ended, refused, with_first, all}

-- how many objects a count says that there are; a negative count says that there are none
abbrev pub told : ℤ → ℕ
told (pos count) = count
told (negsuc count) = 0

-- how many objects a block says that it has
abbrev pub count_of : Block → ℕ
count_of block = told block.count

-- how many objects the blocks say that they have together
abbrev pub count_all : List Block → ℕ
count_all [] = 0
count_all (block ∷ blocks) = count_of block + count_all blocks

-- so many objects of a block, from the place on, and those after it; the block must end after the last one
unfoldable pub block_from : {V E : Type 0} → Reader V E → E → List ℕ → Stream V E → ℕ → ℕ → Stream V E
block_from read rest input behind zero place = if place == length input then behind else refused rest
block_from read rest input behind (suc left) place =
    with_first (read input place) (block_from read rest input behind left)

-- the objects of blocks, the first of which has the number
unfoldable pub blocks_from : {V E : Type 0} → Reader V E → (ℕ → E) → ℕ → List Block → Stream V E
blocks_from read rest number [] = ended
blocks_from read rest number (block ∷ blocks) =
    block_from read (rest number) block.bytes (blocks_from read rest (number + 1) blocks) (count_of block) 0

-- all objects of a container's blocks, or the first refusal
abbrev pub objects_of : {V E : Type 0} → Reader V E → (ℕ → E) → List Block → Result (List V) E
objects_of read rest blocks = all (blocks_from read rest 1 blocks)
