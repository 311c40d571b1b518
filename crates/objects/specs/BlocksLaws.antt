-- The objects of blocks, one step on.
use Rattle.std.proofs.Common.{◌≡◌, ℕ, zero, suc, ◌+◌, ◌-◌, ◌<◌, List, [], ◌∷◌, length, Ok, Err, refl, sym, ap, ◌∙◌}
use Rattle.std.proofs.Common.{arith}
use Rattle.std.specs.Prelude.{◌==◌, Bool, true, false, None, Result, is_ok}
use Rattle.std.proofs.lemmas.Bool.{eq-eqb, ne_eqb}
use Rattle.words.specs.Steps.{value_ok}
use Rattle.avro_container.specs.declared.container.Block.{Block}
use Rattle.objects.specs.declared.blocks.Rest.{Rest}
use Rattle.objects.specs.Object.{Reader, place_behind}
use Rattle.objects.specs.Stream.{Stream, ended, refused, before, with_first}
use Rattle.objects.specs.Blocks.{block_from, count_of, blocks_from}
use Rattle.objects.specs.Left.{left_of, IsWithoutFirst, IsBegun}

-- ---- the end of a block

-- the others follow if the block ends after its last object
pub block_done : {V E : Type 0} (read : Reader V E) (rest : E) (input : List ℕ) (behind : Stream V E) (left place : ℕ)
    → left ≡ 0 → place ≡ length input → block_from read rest input behind left place ≡ behind
unfolding block_from
block_done read rest input behind left place none ends = rw (none, eq-eqb place (length input) ends) refl

-- it is refused if it ends elsewhere
pub block_longer : {V E : Type 0} (read : Reader V E) (rest : E) (input : List ℕ) (behind : Stream V E)
    (left place : ℕ) → left ≡ 0 → (place ≡ length input → ⊥)
    → block_from read rest input behind left place ≡ refused rest
unfolding block_from
block_longer read rest input behind left place none longer = rw (none, ne_eqb place (length input) longer) refl

-- ---- the next object

one_less : (left : ℕ) → 0 < left → left ≡ suc (left - 1)
one_less left some = omega arith

next_is : {V E : Type 0} (read : Reader V E) (rest : E) (input : List ℕ) (behind : Stream V E) (left place : ℕ)
    → 0 < left → block_from read rest input behind left place
    ≡ with_first (read input place) (block_from read rest input behind (left - 1))
unfolding block_from
next_is read rest input behind left place some =
    ap (λ (n : ℕ). block_from read rest input behind n place) (one_less left some)

-- it is taken, and so many are left after it
pub block_more : {V E : Type 0} (read : Reader V E) (rest : E) (input : List ℕ) (behind : Stream V E) (left place : ℕ)
    (x : V) (after : ℕ) → read input place ≡ Ok (x, after)
    → block_from read rest input behind (suc left) place ≡ before x (block_from read rest input behind left after)
unfolding block_from
block_more read rest input behind left place x after taken =
    ap (λ (r : Result _ _). with_first r (block_from read rest input behind left)) taken

-- it is taken
pub block_taken : {V E : Type 0} (read : Reader V E) (rest : E) (input : List ℕ) (behind : Stream V E) (left place : ℕ)
    (x : V) (after : ℕ) → 0 < left → read input place ≡ Ok (x, after)
    → block_from read rest input behind left place ≡ before x (block_from read rest input behind (left - 1) after)
block_taken read rest input behind left place x after some taken =
    next_is read rest input behind left place some
    ∙ ap (λ (r : Result _ _). with_first r (block_from read rest input behind (left - 1))) taken

-- it is refused
pub block_fails : {V E : Type 0} (read : Reader V E) (rest : E) (input : List ℕ) (behind : Stream V E) (left place : ℕ)
    (e : E) → 0 < left → read input place ≡ Err e → block_from read rest input behind left place ≡ refused e
block_fails read rest input behind left place e some fails =
    next_is read rest input behind left place some
    ∙ ap (λ (r : Result _ _). with_first r (block_from read rest input behind (left - 1))) fails

-- it is ignored
pub block_passed : {V E : Type 0} (read : Reader V E) (rest : E) (input : List ℕ) (behind : Stream V E)
    (left place after : ℕ) → 0 < left → place_behind (read input place) ≡ Ok after
    → IsWithoutFirst (block_from read rest input behind left place) (block_from read rest input behind (left - 1) after)
block_passed read rest input behind left place after some passed =
    let taken = value_ok (λ (t : _ × ℕ). t.1) (read input place) after passed in
    let step = block_taken read rest input behind left place taken.0.0 taken.0.1 some taken.1 in
    let there = block_from read rest input behind (left - 1) in
    record { first = taken.0.0; parts = step ∙ ap (λ (n : ℕ). before taken.0.0 (there n)) taken.2 }

refused_as : {V E : Type 0} (read : Result (V × ℕ) E) (e : E) → place_behind read ≡ Err e → read ≡ Err e
refused_as (Ok taken) e is = absurd cc
refused_as (Err d) e is = cc

-- it is refused, and so not ignored
pub block_stays : {V E : Type 0} (read : Reader V E) (rest : E) (input : List ℕ) (behind : Stream V E) (left place : ℕ)
    (e : E) → 0 < left → place_behind (read input place) ≡ Err e
    → block_from read rest input behind left place ≡ refused e
block_stays read rest input behind left place e some fails =
    block_fails read rest input behind left place e some (refused_as (read input place) e fails)

known_as : {V E : Type 0} (read : Result (V × ℕ) E) (others : ℕ → Stream V E) (old : Stream V E)
    → old ≡ with_first read others → old.fault ≡ None → is_ok read ≡ true
known_as (Ok taken) others old is right = refl
known_as (Err e) others old is right = absurd (let wrong = ap (λ (s : Stream _ _). s.fault) is in cc)

-- it can be read if the objects that are left have no fault
pub block_known : {V E : Type 0} (read : Reader V E) (rest : E) (input : List ℕ) (behind : Stream V E) (left place : ℕ)
    → 0 < left → (block_from read rest input behind left place).fault ≡ None → is_ok (read input place) ≡ true
block_known read rest input behind left place some right =
    known_as (read input place) (block_from read rest input behind (left - 1)) _
    (next_is read rest input behind left place some) right

-- ---- the next block

-- it is begun
pub begun : {V E : Type 0} (read : Reader V E) (rest : ℕ → E) (r after : Rest) (block : Block)
    → r.left ≡ 0 → r.place ≡ length r.block.now → r.walk.left ≡ block ∷ after.walk.left
    → after.number ≡ r.number + 1 → after.block.now ≡ block.bytes → after.place ≡ 0 → after.left ≡ count_of block
    → left_of read rest after ≡ left_of read rest r
unfolding blocks_from
begun read rest r after block none ends next number bytes start count =
    let others = blocks_from read rest (r.number + 1) r.walk.left in
    let here = block_done read (rest r.number) r.block.now others r.left r.place none ends in
    rw (number, bytes, start, count) (sym (here ∙ ap (blocks_from read rest (r.number + 1)) next))

-- there is none
pub none_left : {V E : Type 0} (read : Reader V E) (rest : ℕ → E) (r : Rest)
    → r.left ≡ 0 → r.place ≡ length r.block.now → r.walk.left ≡ [] → left_of read rest r ≡ ended
unfolding blocks_from
none_left read rest r none ends last =
    let others = blocks_from read rest (r.number + 1) r.walk.left in
    block_done read (rest r.number) r.block.now others r.left r.place none ends
    ∙ ap (blocks_from read rest (r.number + 1)) last

-- an object is left in the block that was begun
pub begun_some : {V E : Type 0} (left : ℕ) (more : Bool) (stream : Stream V E)
    → more ≡ true → IsBegun left (Ok more) stream → 0 < left
begun_some left true stream is some = some
begun_some left false stream is some = absurd cc
