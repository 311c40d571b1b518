-- Blocks as they are written are spelled so.
use Rattle.std.proofs.Common.{◌≡◌, ℕ, ◌<◌, ◌^◌, ℤ, pos, negsuc, List, [], ◌∷◌, ◌++◌, length, All, refl, ap, subst}
use Rattle.std.proofs.Common.{append_assoc, arith}
use Rattle.std.specs.Prelude.{◌≤ℤ◌}
use Rattle.std.specs.List.{flat_map}
use Rattle.std.proofs.lemmas.Int.{ints}
use Rattle.std.proofs.lemmas.List.{length-append}
use Rattle.std.proofs.lemmas.List.Elements.{All-nil, All-cons, All-head, All-tail}
use Rattle.avro_wire.specs.Number.{long, SpellsNumber}
use Rattle.avro_wire.specs.Writing.{number_text, size_text, bytes_text}
use Rattle.avro_wire.specs.WritingLaws.{count_spelled}
use Rattle.avro_container.specs.declared.container.Block.{Block}
use Rattle.avro_container.specs.Format.{SpellsBlock}
use Rattle.avro_container.specs.Writing.{block_text, HasLongCount}
use Rattle.avro_container.proofs.WrittenMap.{length_within}

-- a count that is not below 0, as a natural number
natural_is : (z : ℤ) → pos 0 ≤ℤ z → (n : ℕ) × (z ≡ pos n)
natural_is (pos n) some = (n, refl)
natural_is (negsuc n) some = absurd (omega (arith, ints))

-- a block
block_spelled : (sync : List ℕ) (block : Block) → length (block_text sync block) < 2 ^ 63 → pos 0 ≤ℤ block.count
    → HasLongCount block → SpellsBlock sync block (block_text sync block)
unfolding bytes_text
block_spelled sync block below some fits =
    let many = natural_is block.count some in
    let count = number_text block.count in
    let size = size_text block.bytes in
    let inner : (size ++ block.bytes) ++ sync ≡ size ++ (block.bytes ++ sync) = append_assoc size block.bytes sync in
    let few : length block.bytes < 2 ^ 63 = omega (arith, length-append count (bytes_text block.bytes ++ sync), length-append (bytes_text block.bytes) sync, length_within block.bytes) in
    record {
      count = count;
      size = size;
      many = many.0;
      counted = many.1;
      counts = subst (SpellsNumber long count) many.1 fits;
      sizes = count_spelled (length block.bytes) few;
      whole = ap (λ (x : List ℕ). count ++ x) inner;
    }

-- each of the blocks
pub blocks_spelled : (sync : List ℕ) (blocks : List Block) → length (flat_map (block_text sync) blocks) < 2 ^ 63
    → All (λ block. pos 0 ≤ℤ block.count) blocks → All HasLongCount blocks
    → All (λ block. SpellsBlock sync block (block_text sync block)) blocks
blocks_spelled sync [] below some fits = All-nil (λ (block : Block). SpellsBlock sync block (block_text sync block))
blocks_spelled sync (block ∷ blocks) below some fits =
    let both = length-append (block_text sync block) (flat_map (block_text sync) blocks) in
    let first = block_spelled sync block (omega (arith, both)) (All-head (λ (b : Block). pos 0 ≤ℤ b.count) block blocks some) (All-head HasLongCount block blocks fits) in
    let others = blocks_spelled sync blocks (omega (arith, both)) (All-tail (λ (b : Block). pos 0 ≤ℤ b.count) block blocks some) (All-tail HasLongCount block blocks fits) in
    All-cons (λ (b : Block). SpellsBlock sync b (block_text sync b)) block blocks first others
