-- Blocks one after the other, as the check of a framing and a walk over it go.
use Rattle.std.proofs.Common.{◌≡◌, ℕ, zero, suc, ◌+◌, ◌-◌, ◌<◌, ◌≤◌, true, List, [], ◌∷◌, length, Result, Ok, Err}
use Rattle.std.proofs.Common.{is_ok, refl, sym, ap, ◌∙◌, arith}
use Rattle.std.proofs.lemmas.Bool.{le-leb, lt-leb, false≢true}
use Rattle.words.specs.Reading.{◌>>=◌, outcome, value_or}
use Rattle.avro_container.specs.declared.block.Frame.{Frame}
use Rattle.avro_container.specs.declared.container.Block.{Block}
use Rattle.avro_container.specs.declared.refusal.ContainerRefusal.{ContainerRefusal}
use Rattle.avro_container.specs.Block.{frame_at, block_of, blocks_at, blocks_left}

-- at the input's end there is no block
pub ends_here : (tries : ℕ) (sync : List ℕ) (block : ℕ) (input : List ℕ) (place : ℕ) → length input ≤ place → blocks_at tries sync block input place ≡ Ok []
unfolding blocks_at
ends_here zero sync block input place le = refl
ends_here (suc tries) sync block input place le = rw (le-leb _ _ le) refl

-- a block is refused
pub fails_here : (tries i : ℕ) (sync : List ℕ) (block : ℕ) (input : List ℕ) (place : ℕ) (e : ContainerRefusal)
    → i < tries → place < length input → frame_at sync block input place ≡ Err e
    → blocks_at (tries - i) sync block input place ≡ Err e
unfolding blocks_at
fails_here tries i sync block input place e lt inside refused =
    let left : tries - i ≡ suc (tries - (i + 1)) = omega arith in
    rw (left, lt-leb _ _ inside, refused) refl

-- a block is read, and the others stand behind it
pub goes_on : (tries i : ℕ) (sync : List ℕ) (block : ℕ) (input : List ℕ) (place : ℕ) (frame : Frame) (after : ℕ)
    → i < tries → place < length input → frame_at sync block input place ≡ Ok (frame, after)
    → blocks_at (tries - i) sync block input place ≡ (blocks_at (tries - (i + 1)) sync (block + 1) input after >>= λ blocks. Ok (block_of input frame ∷ blocks))
unfolding blocks_at
goes_on tries i sync block input place frame after lt inside read =
    let left : tries - i ≡ suc (tries - (i + 1)) = omega arith in
    rw (left, lt-leb _ _ inside, read) refl

-- whether blocks are whole doesn't hang on the block before them
pub outcome_behind : (first : Block) (read : Result (List Block) ContainerRefusal) → outcome (read >>= λ blocks. Ok (first ∷ blocks)) ≡ outcome read
outcome_behind first (Ok blocks) = refl
outcome_behind first (Err e) = refl

-- those behind a block are whole where all are, and are what is left without it
pub left_behind : (first : Block) (read : Result (List Block) ContainerRefusal) → is_ok (read >>= λ blocks. Ok (first ∷ blocks)) ≡ true
    → (is_ok read ≡ true) × (value_or [] (read >>= λ blocks. Ok (first ∷ blocks)) ≡ first ∷ value_or [] read)
left_behind first (Ok blocks) ok = (refl, refl)
left_behind first (Err e) ok = absurd (false≢true ok)

-- what is read for certain
pub is_ok-outcome : (read : Result (List Block) ContainerRefusal) → outcome read ≡ Ok tt → (is_ok read ≡ true) × (read ≡ Ok (value_or [] read))
is_ok-outcome (Ok blocks) done = (refl, refl)
is_ok-outcome (Err e) done = absurd cc

-- what is refused for certain
pub err-outcome : (read : Result (List Block) ContainerRefusal) (e : ContainerRefusal) → outcome read ≡ Err e → read ≡ Err e
err-outcome (Ok blocks) e failed = absurd cc
err-outcome (Err d) e failed = cc

-- no more blocks are tried
pub none_tried : (tries i : ℕ) (sync : List ℕ) (block : ℕ) (input : List ℕ) (place : ℕ) → tries ≤ i → blocks_at (tries - i) sync block input place ≡ Ok []
unfolding blocks_at
none_tried tries i sync block input place le =
    let none : tries - i ≡ 0 = omega arith in
    rw none refl

-- the next block of a framing that was checked, and those behind it
pub walk_goes_on : (sync input : List ℕ) (lent place : ℕ) (frame : Frame) (after : ℕ)
    → is_ok (blocks_left sync input lent place) ≡ true → lent ≤ place → place < length input
    → frame_at sync (lent + 1) input place ≡ Ok (frame, after)
    → (is_ok (blocks_left sync input (lent + 1) after) ≡ true) × (value_or [] (blocks_left sync input lent place) ≡ block_of input frame ∷ value_or [] (blocks_left sync input (lent + 1) after))
walk_goes_on sync input lent place frame after ok before inside read =
    let step = goes_on (length input) lent sync (lent + 1) input place frame after (omega arith) inside read in
    let behind = left_behind (block_of input frame) (blocks_left sync input (lent + 1) after) (sym (ap is_ok step) ∙ ok) in
    (behind.0, ap (value_or []) step ∙ behind.1)

-- no block of it is refused
pub walk_never_fails : (sync input : List ℕ) (lent place : ℕ) (e : ContainerRefusal)
    → is_ok (blocks_left sync input lent place) ≡ true → lent ≤ place → place < length input
    → frame_at sync (lent + 1) input place ≡ Err e → ⊥
walk_never_fails sync input lent place e ok before inside refused =
    false≢true (sym (ap is_ok (fails_here (length input) lent sync (lent + 1) input place e (omega arith) inside refused)) ∙ ok)
