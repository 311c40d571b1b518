-- A container has no more blocks than its file has bytes.
use Rattle.std.proofs.Common.{◌≡◌, ℕ, zero, suc, ◌+◌, ◌≤◌, List, [], ◌∷◌, length, Result, Ok, Err, ap, inl, inr, arith}
use Rattle.std.specs.Prelude.{IfOk, nat_le, nat_lt, slice_range}
use Rattle.words.specs.Reading.{Gives}
use Rattle.words.specs.Steps.{bind_then, test_failed, cond_is, ok_is}
use Rattle.avro_container.specs.declared.container.Block.{Block}
use Rattle.avro_container.specs.declared.container.Container.{Container}
use Rattle.avro_container.specs.declared.refusal.ContainerRefusal.{ContainerRefusal}
use Rattle.avro_container.specs.declared.refusal.ContainerRefusal.TheVariants.{Limit}
use Rattle.avro_container.specs.Refusal.{is_memory}
use Rattle.avro_container.specs.Header.{part_at, header_at}
use Rattle.avro_container.specs.Block.{frame_at, block_of, blocks_at}
use Rattle.avro_container.specs.Container.{most_bytes, container_at}

-- there are no more blocks than tries
blocks_tried : (tries : ℕ) (sync : List ℕ) (number : ℕ) (input : List ℕ) (place : ℕ) (blocks : List Block)
    → blocks_at tries sync number input place ≡ Ok blocks → length blocks ≤ tries
unfolding blocks_at
blocks_tried zero sync number input place blocks is = omega (arith, ap length (ok_is [] blocks is))
blocks_tried (suc tries) sync number input place blocks is =
    elim (cond_is (nat_le (length input) place) _ _ (Ok blocks) is) [
      | inl all ↦ omega (arith, ap length (ok_is [] blocks all.1))
      | inr more ↦
          bind_then (frame_at sync number input place) _ blocks more.1 (λ frame frame_read others.
          bind_then (blocks_at tries sync (number + 1) input frame.1) _ blocks others (λ behind behind_read made.
          let all = ap length (ok_is (block_of input frame.0 ∷ behind) blocks made) in
          omega (arith, blocks_tried tries sync (number + 1) input frame.1 behind behind_read, all)))
    ]

-- a container that is read has no more blocks than its file has bytes
few_blocks : (input : List ℕ) (container : Container) → container_at input ≡ Ok container
    → length container.blocks ≤ length input
unfolding container_at
few_blocks input container is =
    let few = test_failed (nat_lt most_bytes (length input)) _ (Limit (length input)) container is in
    bind_then (header_at input) _ container few.1 (λ header header_read others.
    bind_then (part_at 16 input header.1) _ container others (λ first first_read others.
    let sync = slice_range input header.1 first in
    bind_then (blocks_at (length input) sync 1 input first) _ container others (λ blocks blocks_read made.
    let same = ap (λ (c : Container). length c.blocks) (ok_is _ container made) in
    omega (arith, blocks_tried (length input) sync 1 input first blocks blocks_read, same))))

-- so has one that is answered
pub are_few : {X : Type 0} (view : X → Container) (input : List ℕ) (r : Result X ContainerRefusal)
    → Gives is_memory view r (container_at input) → IfOk r (λ x. length (view x).blocks ≤ length input)
are_few view input (Ok x) given = few_blocks input (view x) given
are_few view input (Err e) given = tt
