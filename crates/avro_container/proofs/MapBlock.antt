-- What is said of a block of the header's map, by either way to tell its count.
use Rattle.std.proofs.Common.{◌≡◌, ℕ, ◌+◌, ◌<◌, ◌≤◌, ℤ, pos, negsuc, true, false, List, ◌++◌, ◌⊎◌, length, Ok, inl}
use Rattle.std.proofs.Common.{inr, ap, arith}
use Rattle.std.proofs.lemmas.Bool.{eqb-true}
use Rattle.std.proofs.lemmas.List.{length-append}
use Rattle.avro_wire.specs.Blocks.{IsCounted, IsSized}
use Rattle.avro_container.specs.Header.{Pair, most_pairs, is_natural, map_number_at, map_block_at}
use Rattle.avro_container.specs.Format.{SpellsPair}
use Rattle.words.specs.Parts.{Took}
use Rattle.avro_container.proofs.SpelledNumber.{number_some}
use Rattle.avro_container.proofs.Keys.{IsSoFar}

-- a block of the map, by either way to tell its count
abbrev pub SpellsMapBlock : List Pair → List ℕ → Type 0
SpellsMapBlock pairs bytes = IsCounted SpellsPair pairs bytes ⊎ IsSized SpellsPair pairs bytes

-- a number that is natural
pub is_natural_is : (z : ℤ) (n : ℕ) → is_natural z n ≡ true → z ≡ pos n
is_natural_is (pos m) n same = ap (λ (k : ℕ). pos k) (eqb-true m n same)
is_natural_is (negsuc m) n same = absurd cc

-- a block that is read: its pairs stand behind those before it
pub record BlockTook (pairs : List Pair) (input : List ℕ) (place : ℕ) (taken : List Pair × ℕ) : Type 0 where
  pub more : List Pair
  pub grown : taken.0 ≡ pairs ++ more
  pub took : Took input place taken.1 (SpellsMapBlock more)
  pub kept : IsSoFar taken.0
  pub few : length taken.0 ≤ most_pairs

-- a block takes a byte at least
pub block_some : (more : List Pair) (bytes : List ℕ) → SpellsMapBlock more bytes → 0 < length bytes
block_some more bytes (inl block) = omega (arith, ap length block.parts.parts, length-append block.parts.front block.parts.rest, number_some block.parts.front (pos (length more)) block.parts.first)
block_some more bytes (inr block) = omega (arith, ap length block.whole, length-append block.count (block.size ++ block.spelled), number_some block.count (negsuc block.less) block.counts)

-- what a block that is spelled reads as
pub record BlockAgain (place : ℕ) (pairs : List Pair) (input bytes : List ℕ) (more : List Pair) : Type 0 where
  pub count : ℤ
  pub start : ℕ
  pub number : map_number_at input place ≡ Ok (count, start)
  pub some : is_natural count 0 ≡ false
  pub read : map_block_at place pairs input (count, start) ≡ Ok (pairs ++ more, place + length bytes)
