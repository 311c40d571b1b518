-- The header's map by the relation: what is read is spelled so, and what is spelled so is read.
use Rattle.std.proofs.Common.{◌≡◌, ℕ, zero, suc, ◌+◌, ◌-◌, ◌<◌, ◌≤◌, ℤ, pos, List, [], ◌∷◌, ◌++◌, length, drop, Ok}
use Rattle.std.proofs.Common.{inl, inr, refl, sym, ap, subst, ◌∙◌, append_assoc, arith}
use Rattle.std.specs.List.{flat_map}
use Rattle.std.proofs.lemmas.List.{length-append, append-nil}
use Rattle.avro_wire.specs.Blocks.{SpellsBlocks}
use Rattle.avro_container.specs.Header.{Pair, most_pairs, is_natural, map_number_at, map_block_at, map_at}
use Rattle.avro_container.specs.Format.{SpellsPair}
use Rattle.words.specs.Parts.{Took, behind_is, took_then, took_moves}
use Rattle.words.specs.Steps.{bind_then, cond_is, ok_is}
use Rattle.avro_container.proofs.SpelledNumber.{number_some, map_number_took, map_number_again}
use Rattle.avro_container.proofs.SpelledMapBlock.{block_took, block_again}
use Rattle.avro_container.proofs.Keys.{IsSoFar, so_far_front}
use Rattle.avro_container.proofs.MapBlock.{is_natural_is, block_some}

-- the pairs of all blocks
abbrev pub pairs_of : List (List Pair) → List Pair
pairs_of blocks = flat_map (λ pairs. pairs) blocks

-- a map that is read: its pairs stand behind those before it
pub record MapTook (pairs : List Pair) (input : List ℕ) (place : ℕ) (taken : List Pair × ℕ) : Type 0 where
  pub blocks : List (List Pair)
  pub grown : taken.0 ≡ pairs ++ pairs_of blocks
  pub took : Took input place taken.1 (SpellsBlocks SpellsPair blocks)
  pub kept : IsSoFar taken.0
  pub few : length taken.0 ≤ most_pairs

-- the count 0 ends the map
map_ended : (pairs : List Pair) (input : List ℕ) (place : ℕ) (count : ℤ × ℕ) → map_number_at input place ≡ Ok count
    → count.0 ≡ pos 0 → IsSoFar pairs → length pairs ≤ most_pairs → MapTook pairs input place (pairs, count.1)
map_ended pairs input place count read none kept few = record {
  blocks = [];
  grown = sym (append-nil pairs);
  took = rw none at (map_number_took input place count read);
  kept = kept;
  few = few;
}

-- what is read is spelled so, where as many blocks are tried as there are bytes
pub map_took : (tries : ℕ) (pairs : List Pair) (input : List ℕ) (place : ℕ) (taken : List Pair × ℕ)
    → map_at tries pairs input place ≡ Ok taken → length input - place < tries → IsSoFar pairs
    → length pairs ≤ most_pairs → MapTook pairs input place taken
unfolding map_at
map_took zero pairs input place taken read enough kept few = absurd (omega arith)
map_took (suc tries) pairs input place taken read enough kept few =
    bind_then (map_number_at input place) _ taken read (λ count number behind.
    elim (cond_is (is_natural count.0 0) _ _ _ behind) [
      | inl ended ↦ subst (MapTook pairs input place) (ok_is (pairs, count.1) taken ended.1) (map_ended pairs input place count number (is_natural_is count.0 0 ended.0) kept few)
      | inr goes_on ↦
          bind_then (map_block_at place pairs input count) _ taken goes_on.1 (λ step step_read others_read.
          let first = block_took place pairs input count.0 count.1 step number goes_on.0 step_read kept in
          let within = took_moves input place step.1 (block_some first.more) first.took in
          let others = map_took tries step.0 input step.1 taken others_read (omega arith) first.kept first.few in
          record {
            blocks = first.more ∷ others.blocks;
            grown = others.grown ∙ ap (λ (x : List Pair). x ++ pairs_of others.blocks) first.grown ∙ append_assoc pairs first.more (pairs_of others.blocks);
            took = took_then input place step.1 taken.1 first.took others.took;
            kept = others.kept;
            few = others.few;
          })
    ])

-- what is spelled so is read, whatever follows
pub map_again : (blocks : List (List Pair)) (tries : ℕ) (pairs : List Pair) (input : List ℕ) (place : ℕ)
    (bytes rest : List ℕ) → drop place input ≡ bytes ++ rest → SpellsBlocks SpellsPair blocks bytes
    → length bytes ≤ tries
    → IsSoFar (pairs ++ pairs_of blocks) → length (pairs ++ pairs_of blocks) ≤ most_pairs → map_at tries pairs input place ≡ Ok (pairs ++ pairs_of blocks, place + length bytes)
unfolding map_at
map_again [] zero pairs input place bytes rest parts spelled enough kept few = absurd (omega (arith, number_some bytes (pos 0) spelled))
map_again [] (suc tries) pairs input place bytes rest parts spelled enough kept few = rw (map_number_again input place bytes rest (pos 0) parts spelled, append-nil pairs) refl
map_again (more ∷ blocks) zero pairs input place bytes rest parts spelled enough kept few =
    absurd (omega (arith, block_some more spelled.front spelled.first, ap length spelled.parts, length-append spelled.front spelled.rest))
map_again (more ∷ blocks) (suc tries) pairs input place bytes rest parts spelled enough kept few =
    let whole : drop place input ≡ spelled.front ++ (spelled.rest ++ rest) = parts ∙ ap (λ (x : List ℕ). x ++ rest) spelled.parts ∙ append_assoc spelled.front spelled.rest rest in
    let together : (pairs ++ more) ++ pairs_of blocks ≡ pairs ++ pairs_of (more ∷ blocks) = append_assoc pairs more (pairs_of blocks) in
    let counts : length bytes ≡ length spelled.front + length spelled.rest = ap length spelled.parts ∙ length-append spelled.front spelled.rest in
    let fits : length pairs + length more ≤ most_pairs = omega (arith, ap length together, length-append (pairs ++ more) (pairs_of blocks), length-append pairs more) in
    let kept_here : IsSoFar (pairs ++ more) = so_far_front (pairs ++ more) (pairs_of blocks) (rw together kept) in
    let first = block_again place pairs input spelled.front (spelled.rest ++ rest) more whole spelled.first kept_here fits in
    let behind = behind_is input place spelled.front (spelled.rest ++ rest) whole in
    let left : length spelled.rest ≤ tries = omega (arith, block_some more spelled.front spelled.first) in
    let others = map_again blocks tries (pairs ++ more) input (place + length spelled.front) spelled.rest rest behind spelled.second left (rw together kept) (rw together few) in
    let size : place + length spelled.front + length spelled.rest ≡ place + length bytes = omega arith in
    rw (first.number, first.some, first.read, others, together, size) refl
