-- The blocks of a file by the relation: what is read is spelled so, and what is spelled so is read.
use Rattle.std.proofs.Common.{◌≡◌, ℕ, zero, suc, ◌+◌, ◌-◌, ◌<◌, ◌≤◌, List, [], ◌∷◌, ◌++◌, length, drop, Ok, nat_le}
use Rattle.std.proofs.Common.{inl, inr, refl, ap, subst, ◌∙◌, arith}
use Rattle.std.proofs.lemmas.Bool.{leb-true, lt-leb}
use Rattle.std.proofs.lemmas.List.{length-drop, length-append, drop_all}
use Rattle.avro_container.specs.declared.container.Block.{Block}
use Rattle.avro_container.specs.Block.{frame_at, block_of, blocks_at}
use Rattle.avro_container.specs.Format.{SpellsBlocks}
use Rattle.words.specs.Parts.{behind_is, took_moves}
use Rattle.words.specs.Steps.{bind_then, cond_is, ok_is}
use Rattle.avro_container.proofs.WalkLemmas.{ends_here}
use Rattle.avro_container.proofs.SpelledBlock.{frame_took, block_some, frame_again}

-- at the input's end no block stands
blocks_ended : (sync input : List ℕ) (place : ℕ) (blocks : List Block) → length input ≤ place → [] ≡ blocks → SpellsBlocks sync blocks (drop place input)
blocks_ended sync input place blocks ended none = subst (λ (x : List Block). SpellsBlocks sync x (drop place input)) none (drop_all place input ended)

-- what is read is spelled so, up to the end
pub blocks_took : (tries : ℕ) (sync : List ℕ) (number : ℕ) (input : List ℕ) (place : ℕ) (blocks : List Block)
    → blocks_at tries sync number input place ≡ Ok blocks → length input - place ≤ tries
    → SpellsBlocks sync blocks (drop place input)
unfolding blocks_at
blocks_took zero sync number input place blocks read enough = blocks_ended sync input place blocks (omega arith) (ok_is [] blocks read)
blocks_took (suc tries) sync number input place blocks read enough =
    elim (cond_is (nat_le (length input) place) _ _ _ read) [
      | inl ended ↦ blocks_ended sync input place blocks (leb-true _ _ ended.0) (ok_is [] blocks ended.1)
      | inr goes_on ↦
          bind_then (frame_at sync number input place) _ blocks goes_on.1 (λ frame frame_read behind.
          bind_then (blocks_at tries sync (number + 1) input frame.1) _ blocks behind (λ others others_read made.
          let first = frame_took sync number input place frame frame_read in
          let within = took_moves input place frame.1 (block_some sync (block_of input frame.0)) first in
          let spelled = blocks_took tries sync (number + 1) input frame.1 others others_read (omega arith) in
          let left : drop frame.1 input ≡ first.stand.rest =
          ap (λ (n : ℕ). drop n input) first.stand.ends ∙ behind_is input place first.bytes first.stand.rest first.stand.parts in
          subst (λ (x : List Block). SpellsBlocks sync x (drop place input)) (ok_is (block_of input frame.0 ∷ others) blocks made)
          (record { front = first.bytes; rest = first.stand.rest; parts = first.stand.parts; first = first.such; second = rw left at spelled })))
    ]

-- what is spelled so up to the end is read
pub blocks_again : (blocks : List Block) (tries : ℕ) (sync : List ℕ) (number : ℕ) (input : List ℕ) (place : ℕ)
    (bytes : List ℕ) → length sync ≡ 16 → drop place input ≡ bytes → SpellsBlocks sync blocks bytes
    → length bytes ≤ tries
    → blocks_at tries sync number input place ≡ Ok blocks
unfolding blocks_at
blocks_again [] tries sync number input place bytes marker parts spelled enough =
    ends_here tries sync number input place (omega (arith, length-drop place input, ap length (parts ∙ spelled)))
blocks_again (block ∷ blocks) zero sync number input place bytes marker parts spelled enough =
    absurd (omega (arith, block_some sync block spelled.front spelled.first, ap length spelled.parts, length-append spelled.front spelled.rest))
blocks_again (block ∷ blocks) (suc tries) sync number input place bytes marker parts spelled enough =
    let whole : drop place input ≡ spelled.front ++ spelled.rest = parts ∙ spelled.parts in
    let some = block_some sync block spelled.front spelled.first in
    let counts : length bytes ≡ length spelled.front + length spelled.rest = ap length spelled.parts ∙ length-append spelled.front spelled.rest in
    let inside : place < length input = omega (arith, length-drop place input, ap length parts) in
    let first = frame_again sync number input place spelled.front spelled.rest block marker whole spelled.first in
    let behind = behind_is input place spelled.front spelled.rest whole in
    let others = blocks_again blocks tries sync (number + 1) input (place + length spelled.front) spelled.rest marker behind spelled.second (omega arith) in
    rw (lt-leb (length input) place inside, first.read, others, first.block_is) refl
