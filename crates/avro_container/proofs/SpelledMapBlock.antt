-- A block of the header's map by the relation: what is read is spelled so, and what is spelled so is read.
use Rattle.std.proofs.Common.{◌≡◌, ℕ, ◌+◌, ◌≤◌, ℤ, pos, negsuc, false, List, ◌++◌, length, drop, Ok, inl, inr}
use Rattle.avro_container.specs.Header.{Pair, most_pairs, is_natural, map_number_at, map_block_at}
use Rattle.avro_container.proofs.Keys.{IsSoFar}
use Rattle.avro_container.proofs.MapBlock.{SpellsMapBlock, BlockTook, BlockAgain}
use Rattle.avro_container.proofs.SpelledCounted.{counted_took, counted_again}
use Rattle.avro_container.proofs.SpelledSized.{sized_took, sized_again}

-- what is read is spelled so
pub block_took : (place : ℕ) (pairs : List Pair) (input : List ℕ) (count : ℤ) (start : ℕ) (taken : List Pair × ℕ)
    → map_number_at input place ≡ Ok (count, start) → is_natural count 0 ≡ false
    → map_block_at place pairs input (count, start) ≡ Ok taken → IsSoFar pairs
    → BlockTook pairs input place taken
unfolding map_block_at
block_took place pairs input (pos n) start taken number some read kept = counted_took place n pairs input start taken number some read kept
block_took place pairs input (negsuc n) start taken number some read kept = sized_took place n pairs input start taken number read kept

-- what is spelled so is read, whatever follows
pub block_again : (place : ℕ) (pairs : List Pair) (input bytes rest : List ℕ) (more : List Pair)
    → drop place input ≡ bytes ++ rest → SpellsMapBlock more bytes → IsSoFar (pairs ++ more)
    → length pairs + length more ≤ most_pairs
    → BlockAgain place pairs input bytes more
block_again place pairs input bytes rest more parts (inl block) kept few = counted_again place pairs input bytes rest more parts block kept few
block_again place pairs input bytes rest more parts (inr block) kept few = sized_again place pairs input bytes rest more parts block kept few
