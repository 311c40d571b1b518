-- A block of the header's map that tells its count alone, by the relation: what is read is spelled so, and what is spelled so is read.
use Rattle.std.proofs.Common.{◌≡◌, ℕ, zero, suc, ◌+◌, ◌≤◌, pos, false, List, ◌++◌, length, drop, Ok, nat_lt, inl}
use Rattle.std.proofs.Common.{refl, sym, ap, subst, ◌∙◌, append_assoc, arith}
use Rattle.std.proofs.lemmas.Bool.{ltb-false, le-ltb, ne_eqb}
use Rattle.std.proofs.lemmas.List.{length-append}
use Rattle.words.specs.Grammar.{Joined}
use Rattle.avro_wire.specs.Number.{long, SpellsNumber}
use Rattle.avro_wire.specs.Blocks.{SpellsItems, IsCounted}
use Rattle.avro_container.specs.declared.refusal.ContainerRefusal.TheVariants.{Header}
use Rattle.avro_container.specs.Header.{Pair, most_pairs, is_natural, map_number_at, pairs_at, counted_at, map_block_at}
use Rattle.avro_container.specs.Format.{SpellsPair}
use Rattle.words.specs.Parts.{behind_is, took_then, took_as}
use Rattle.words.specs.Steps.{test_failed}
use Rattle.avro_container.proofs.SpelledNumber.{map_number_took, map_number_again}
use Rattle.avro_container.proofs.SpelledPairs.{pairs_took, pairs_again}
use Rattle.avro_container.proofs.Keys.{IsSoFar}
use Rattle.avro_container.proofs.MapBlock.{SpellsMapBlock, BlockTook, BlockAgain}

-- its bytes, of one that tells its count alone
counted_is : (n : ℕ) (more : List Pair) (bytes : List ℕ) → length more ≡ n → is_natural (pos n) 0 ≡ false
    → Joined (λ front. SpellsNumber long front (pos n)) (SpellsItems SpellsPair more) bytes
    → SpellsMapBlock more bytes
counted_is zero more bytes many some parts = absurd cc
counted_is (suc n) more bytes many some parts = inl (record {
  some = omega arith;
  parts = subst (λ (k : ℕ). Joined (λ front. SpellsNumber long front (pos k)) (SpellsItems SpellsPair more) bytes) (sym many) parts;
})

-- what is read is spelled so
pub counted_took : (place n : ℕ) (pairs : List Pair) (input : List ℕ) (start : ℕ) (taken : List Pair × ℕ)
    → map_number_at input place ≡ Ok (pos n, start) → is_natural (pos n) 0 ≡ false
    → counted_at place n pairs input start ≡ Ok taken → IsSoFar pairs
    → BlockTook pairs input place taken
unfolding counted_at
counted_took place n pairs input start taken number some read kept =
    let passed = test_failed (nat_lt most_pairs (length pairs + n)) (pairs_at n pairs input start) (Header place) taken read in
    let block = pairs_took n pairs input start taken passed.1 kept in
    record {
      more = block.more;
      grown = block.grown;
      took = took_as input place taken.1 (λ bytes. counted_is n block.more bytes block.many some) (took_then input place start taken.1 (map_number_took input place (pos n, start) number) block.took);
      kept = block.kept;
      few = omega (arith, ltb-false _ _ passed.0, block.many, ap length block.grown, length-append pairs block.more);
    }

-- what is spelled so is read, whatever follows
pub counted_again : (place : ℕ) (pairs : List Pair) (input bytes rest : List ℕ) (more : List Pair)
    → drop place input ≡ bytes ++ rest → IsCounted SpellsPair more bytes → IsSoFar (pairs ++ more)
    → length pairs + length more ≤ most_pairs
    → BlockAgain place pairs input bytes more
unfolding map_block_at counted_at
counted_again place pairs input bytes rest more parts block kept few =
    let count = block.parts.front in
    let items = block.parts.rest in
    let whole : drop place input ≡ count ++ (items ++ rest) = parts ∙ ap (λ (x : List ℕ). x ++ rest) block.parts.parts ∙ append_assoc count items rest in
    let read = pairs_again more pairs input (place + length count) items rest (behind_is input place count (items ++ rest) whole) block.parts.second kept in
    let size : place + length count + length items ≡ place + length bytes = omega (arith, ap length block.parts.parts, length-append count items) in
    let fits : nat_lt most_pairs (length pairs + length more) ≡ false = le-ltb _ _ few in
    record {
      count = pos (length more);
      start = place + length count;
      number = map_number_again input place count (items ++ rest) (pos (length more)) whole block.parts.first;
      some = ne_eqb (length more) 0 (λ none. omega (arith, block.some));
      read = rw (fits, read, size) refl;
    }
