-- The objects that are read of blocks are those that the blocks hold.
use Rattle.std.proofs.Common.{◌≡◌, ℕ, zero, suc, ◌+◌, ◌≤◌, true, false, List, [], ◌∷◌, ◌++◌, length, drop, None, Ok}
use Rattle.std.proofs.Common.{Err, refl, sym, ap, subst, ◌∙◌, arith}
use Rattle.std.specs.Prelude.{◌==◌, Bool, IfOk, Result, if◌then◌else◌}
use Rattle.std.proofs.lemmas.Bool.{eqb-true}
use Rattle.std.proofs.lemmas.List.{length-drop, length-append, drop_all}
use Rattle.words.specs.Reading.{Gives}
use Rattle.words.specs.Laws.{refused_so}
use Rattle.words.specs.Parts.{Stand, behind_is, stand_within}
use Rattle.avro_wire.specs.Blocks.{SpellsItems}
use Rattle.avro_container.specs.declared.container.Block.{Block}
use Rattle.objects.specs.Object.{Reader, Agrees}
use Rattle.objects.specs.Stream.{Stream, refused, before, all_before, with_first, all}
use Rattle.objects.specs.Blocks.{block_from, count_of, blocks_from, objects_of}
use Rattle.objects.specs.Held.{HoldsBlock, Hold}
use Rattle.objects.specs.BlocksLaws.{block_done, block_more}
use Rattle.objects.specs.StreamLaws.{all_given}

-- ---- one block

-- the rest of a block, from the place on, was read to its end without a refusal
record BlockTook {V E : Type 0} (Spells : V → List ℕ → Type 0) (input : List ℕ) (behind : Stream V E) (left place : ℕ)
    (stream : Stream V E) : Type 0 where
  front : List V
  many : left ≡ length front
  parts : stream.objects ≡ front ++ behind.objects
  right : behind.fault ≡ None
  spelled : SpellsItems Spells front (drop place input)

-- it was, if the stream has no fault
abbrev TakesBlock : {V E : Type 0} → (V → List ℕ → Type 0) → List ℕ → Stream V E → ℕ → ℕ → Stream V E → Type 0
TakesBlock Spells input behind left place stream =
    stream.fault ≡ None → BlockTook Spells input behind left place stream

-- at the end of a block
end_took : {V E : Type 0} (Spells : V → List ℕ → Type 0) (rest : E) (input : List ℕ) (behind : Stream V E) (place : ℕ)
    (ends : Bool) → (place == length input) ≡ ends
    → TakesBlock Spells input behind 0 place (if ends then behind else refused rest)
end_took Spells rest input behind place true is = λ right.
    let here = eqb-true place (length input) is in
    record {
      front = [];
      many = refl;
      parts = refl;
      right = right;
      spelled = drop_all place input (omega (arith, here));
    }
end_took Spells rest input behind place false is = λ right. absurd cc

-- at an object
step_took : {V E : Type 0} (read : Reader V E) (Spells : V → List ℕ → Type 0) → Agrees read Spells → (input : List ℕ)
    (behind : Stream V E) (left place : ℕ) (others : ℕ → Stream V E)
    → ((after : ℕ) → TakesBlock Spells input behind left after (others after))
    → (taken : Result (V × ℕ) E) → read input place ≡ taken
    → TakesBlock Spells input behind (suc left) place (with_first taken others)
step_took read Spells agrees input behind left place others each (Ok taken) is = λ right.
    let first = agrees.sound input place taken is in
    let behind_it = each taken.1 right in
    let stand = first.stand in
    let there : drop taken.1 input ≡ stand.rest =
    ap (λ (n : ℕ). drop n input) stand.ends ∙ behind_is input place first.bytes stand.rest stand.parts in
    record {
      front = taken.0 ∷ behind_it.front;
      many = ap suc behind_it.many;
      parts = ap (λ (xs : List _). taken.0 ∷ xs) behind_it.parts;
      right = behind_it.right;
      spelled = record {
        front = first.bytes;
        rest = drop taken.1 input;
        parts = stand.parts ∙ ap (λ (x : List ℕ). first.bytes ++ x) (sym there);
        first = first.such;
        second = behind_it.spelled;
      };
    }
step_took read Spells agrees input behind left place others each (Err e) is = λ right. absurd cc

-- what is read of a block is held
block_took : {V E : Type 0} (read : Reader V E) (Spells : V → List ℕ → Type 0) → Agrees read Spells → (rest : E)
    (input : List ℕ) (behind : Stream V E) (left place : ℕ)
    → TakesBlock Spells input behind left place (block_from read rest input behind left place)
unfolding block_from
block_took read Spells agrees rest input behind zero place =
    end_took Spells rest input behind place (place == length input) refl
block_took read Spells agrees rest input behind (suc left) place =
    step_took read Spells agrees input behind left place (block_from read rest input behind left)
    (block_took read Spells agrees rest input behind left) (read input place) refl

-- what a block holds is read of it
block_again : {V E : Type 0} (read : Reader V E) (Spells : V → List ℕ → Type 0) → Agrees read Spells → (rest : E)
    (input : List ℕ) (behind : Stream V E) (front : List V) (place : ℕ)
    → place ≤ length input → SpellsItems Spells front (drop place input)
    → block_from read rest input behind (length front) place ≡ all_before front behind
block_again read Spells agrees rest input behind [] place within spelled =
    block_done read rest input behind 0 place refl (omega (arith, within, length-drop place input, ap length spelled))
block_again read Spells agrees rest input behind (x ∷ xs) place within spelled =
    let after = place + length spelled.front in
    let stand : Stand input place after spelled.front =
    record { rest = spelled.rest; parts = spelled.parts; ends = refl } in
    let taken = agrees.complete input place after x spelled.front spelled.first stand in
    let there = behind_is input place spelled.front spelled.rest spelled.parts in
    let second = subst (SpellsItems Spells xs) (sym there) spelled.second in
    let fits = stand_within input place after spelled.front within stand in
    let others = block_again read Spells agrees rest input behind xs after fits second in
    block_more read rest input behind (length xs) place x after taken ∙ ap (before x) others

-- ---- all blocks

-- what is read of blocks, without a fault, is what they hold
pub blocks_took : {V E : Type 0} (read : Reader V E) (Spells : V → List ℕ → Type 0) → Agrees read Spells
    → (rest : ℕ → E) (blocks : List Block) (number : ℕ) → (blocks_from read rest number blocks).fault ≡ None
    → Hold Spells blocks (blocks_from read rest number blocks).objects
unfolding blocks_from
blocks_took read Spells agrees rest [] number right = refl
blocks_took read Spells agrees rest (block ∷ blocks) number right =
    let behind = blocks_from read rest (number + 1) blocks in
    let took = block_took read Spells agrees (rest number) block.bytes behind (count_of block) 0 right in
    record {
      front = took.front;
      rest = behind.objects;
      parts = took.parts;
      first = record { many = took.many; spelled = took.spelled };
      others = blocks_took read Spells agrees rest blocks (number + 1) took.right;
    }

-- what blocks hold is read of them, without a fault
pub blocks_again : {V E : Type 0} (read : Reader V E) (Spells : V → List ℕ → Type 0) → Agrees read Spells
    → (rest : ℕ → E) (blocks : List Block) (number : ℕ) (objects : List V) → Hold Spells blocks objects
    → blocks_from read rest number blocks ≡ record { objects = objects; fault = None }
unfolding blocks_from
blocks_again read Spells agrees rest [] number objects holds =
    ap (λ (xs : List _). record { objects = xs; fault = None }) (sym holds)
blocks_again read Spells agrees rest (block ∷ blocks) number objects holds =
    let behind = blocks_from read rest (number + 1) blocks in
    let others = blocks_again read Spells agrees rest blocks (number + 1) holds.rest holds.others in
    let spelled = holds.first.spelled in
    let first = block_again read Spells agrees (rest number) block.bytes behind holds.front 0 (omega arith) spelled in
    rw (holds.first.many, first, others, holds.parts) refl

-- ---- the clauses, of whatever is answered

-- all objects that are read are held
pub objects_found : {V E : Type 0} (read : Reader V E) (Spells : V → List ℕ → Type 0) → Agrees read Spells
    → (rest : ℕ → E) (blocks : List Block) (values : List V)
    → objects_of read rest blocks ≡ Ok values → Hold Spells blocks values
objects_found read Spells agrees rest blocks values is =
    let right = all_given (blocks_from read rest 1 blocks) values is in
    subst (Hold Spells blocks) right.1 (blocks_took read Spells agrees rest blocks 1 right.0)

-- the objects that are held are read
pub objects_only : {V E : Type 0} (read : Reader V E) (Spells : V → List ℕ → Type 0) → Agrees read Spells
    → (rest : ℕ → E) (blocks : List Block) (values : List V)
    → Hold Spells blocks values → objects_of read rest blocks ≡ Ok values
objects_only read Spells agrees rest blocks values holds =
    ap all (blocks_again read Spells agrees rest blocks 1 values holds)

-- what a call returned of them is held
pub is_found : {X V E : Type 0} (is_memory : E → Bool) (view : X → List V) (read : Reader V E)
    (Spells : V → List ℕ → Type 0) → Agrees read Spells → (rest : ℕ → E) (blocks : List Block) (r : Result X E)
    → Gives is_memory view r (objects_of read rest blocks) → IfOk r (λ x. Hold Spells blocks (view x))
is_found is_memory view read Spells agrees rest blocks (Ok x) given =
    objects_found read Spells agrees rest blocks (view x) given
is_found is_memory view read Spells agrees rest blocks (Err e) given = tt

-- what is held is what a call returned of them
pub is_only : {X V E : Type 0} (is_memory : E → Bool) (view : X → List V) (read : Reader V E)
    (Spells : V → List ℕ → Type 0) → Agrees read Spells → (rest : ℕ → E) (blocks : List Block) (r : Result X E)
    → Gives is_memory view r (objects_of read rest blocks)
    → (values : List V) → Hold Spells blocks values → Gives is_memory view r (Ok values)
is_only is_memory view read Spells agrees rest blocks (Ok x) given values holds =
    sym (objects_only read Spells agrees rest blocks values holds) ∙ given
is_only is_memory view read Spells agrees rest blocks (Err e) given values holds =
    let is = objects_only read Spells agrees rest blocks values holds in
    refused_so (is_memory e) (λ fails. sym is ∙ fails) given
