-- The counts of blocks, one after the other.
use Rattle.std.proofs.Common.{◌≡◌, ℕ, ◌+◌, ◌<◌, ◌≤◌, List, [], ◌∷◌, Ok, Err, refl, arith}
use Rattle.std.proofs.lemmas.Bool.{lt-ltb, le-ltb}
use Rattle.limits.specs.declared.which.Which.TheVariants.{FileRows}
use Rattle.avro_container.specs.declared.container.Block.{Block}
use Rattle.stored_rows.specs.declared.refusal.RowRefusal.TheVariants.{Limit}
use Rattle.objects.specs.Blocks.{count_of, count_all}
use Rattle.row_reading.specs.File.{check_counts}
use Rattle.limits.specs.Limits.{most_rows}

-- a block's count is added
pub counts_on : (before count : ℕ) (blocks : List Block) (block : Block) (others : List Block) → blocks ≡ block ∷ others → count_of block ≡ count → before + count ≤ most_rows
    → check_counts before blocks ≡ check_counts (before + count) others
unfolding check_counts
counts_on before count blocks block others is here few = rw (is, here, le-ltb most_rows (before + count) few) refl

-- a block's count passes the limit
pub counts_over : (before count : ℕ) (blocks : List Block) (block : Block) (others : List Block) → blocks ≡ block ∷ others → count_of block ≡ count → most_rows < before + count
    → check_counts before blocks ≡ Err (Limit FileRows (before + count))
unfolding check_counts
counts_over before count blocks block others is here over = rw (is, here, lt-ltb most_rows (before + count) over) refl

-- no block is left
pub counts_end : (before : ℕ) (blocks : List Block) → blocks ≡ [] → check_counts before blocks ≡ Ok tt
unfolding check_counts
counts_end before blocks none = rw none refl

-- counts that are few together pass the check
pub counts_few : (blocks : List Block) (before : ℕ) → before + count_all blocks ≤ most_rows → check_counts before blocks ≡ Ok tt
unfolding check_counts
counts_few [] before few = refl
counts_few (block ∷ blocks) before few =
    let here : before + count_of block ≤ most_rows = omega (arith, few) in
    let others = counts_few blocks (before + count_of block) (omega (arith, few)) in
    rw (le-ltb most_rows (before + count_of block) here) others
