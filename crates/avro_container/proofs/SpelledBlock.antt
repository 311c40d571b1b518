-- A block of a file by the relation: what is read is spelled so, and what is spelled so is read.
use Rattle.std.proofs.Common.{◌≡◌, ℕ, ◌+◌, ◌-◌, ◌<◌, pos, true, List, ◌++◌, length, drop, slice_range, Ok, refl, sym}
use Rattle.std.proofs.Common.{ap, subst, ◌∙◌, append_assoc, arith}
use Rattle.std.specs.Str.{bytes_eq}
use Rattle.std.proofs.lemmas.List.{length-drop, length-append}
use Rattle.std.proofs.lemmas.Slice.Eq.{bytes_eq-Decides}
use Rattle.words.specs.Grammar.{Joined}
use Rattle.avro_wire.specs.Number.{long, SpellsNumber}
use Rattle.avro_container.specs.declared.block.Frame.{Frame}
use Rattle.avro_container.specs.declared.container.Block.{Block}
use Rattle.avro_container.specs.declared.refusal.ContainerRefusal.TheVariants.{Sync}
use Rattle.avro_container.specs.Header.{part_at}
use Rattle.avro_container.specs.Block.{count_at, frame_at, block_of}
use Rattle.avro_container.specs.Format.{SpellsBlock}
use Rattle.words.specs.Parts.{Took, behind_is, took_then, took_as}
use Rattle.words.specs.Steps.{bind_then, test_passed, ok_is}
use Rattle.avro_container.proofs.SpelledNumber.{number_some}
use Rattle.avro_container.proofs.SpelledItem.{slice_is, part_again}
use Rattle.avro_container.proofs.SpelledCount.{count_took, count_again, part_is}

-- the bytes of a frame are those of its block
frame_is : (sync objects marker : List ℕ) (n m : ℕ) (bytes : List ℕ) → bytes_eq marker sync ≡ true
    → Joined (λ front. SpellsNumber long front (pos n)) (Joined (λ front. SpellsNumber long front (pos m)) (Joined (λ front. (front ≡ objects) × (length front ≡ m)) (λ rest. (rest ≡ marker) × (length rest ≡ 16)))) bytes
    → SpellsBlock sync (record { count = pos n; bytes = objects }) bytes
frame_is sync objects marker n m bytes same joined =
    let inner = joined.second in
    let last = inner.second in
    let marker_is : marker ≡ sync = (bytes_eq-Decides marker sync).0 same in
    let size : m ≡ length objects = sym last.first.1 ∙ ap length last.first.0 in
    let behind : last.front ++ last.rest ≡ objects ++ sync = ap (λ (x : List ℕ). x ++ last.rest) last.first.0 ∙ ap (λ (x : List ℕ). objects ++ x) (last.second.0 ∙ marker_is) in
    record {
      count = joined.front;
      size = inner.front;
      many = n;
      counted = refl;
      counts = joined.first;
      sizes = rw (← size) inner.first;
      whole = joined.parts ∙ ap (λ (x : List ℕ). joined.front ++ x) (inner.parts ∙ ap (λ (x : List ℕ). inner.front ++ x) (last.parts ∙ behind));
    }

-- where a frame was read, the bytes of its block stand
abbrev pub FrameTook : List ℕ → List ℕ → ℕ → Frame × ℕ → Type 0
FrameTook sync input place taken = Took input place taken.1 (SpellsBlock sync (block_of input taken.0))

-- of its parts that were read
frame_of : (sync input : List ℕ) (place : ℕ) (count size : ℕ × ℕ) (end after : ℕ)
    → Took input place count.1 (λ bytes. SpellsNumber long bytes (pos count.0))
    → Took input count.1 size.1 (λ bytes. SpellsNumber long bytes (pos size.0))
    → part_at size.0 input size.1 ≡ Ok end → part_at 16 input end ≡ Ok after → bytes_eq (slice_range input end after) sync ≡ true → FrameTook sync input place (record { count = count.0; start = size.1; end = end }, after)
frame_of sync input place count size end after first second third fourth same =
    let marker = took_then input size.1 end after (part_is input size.1 end size.0 third) (part_is input end after 16 fourth) in
    let whole = took_then input place count.1 after first (took_then input count.1 size.1 after second marker) in
    took_as input place after (λ bytes. frame_is sync (slice_range input size.1 end) (slice_range input end after) count.0 size.0 bytes same) whole

-- what is read is spelled so
pub frame_took : (sync : List ℕ) (block : ℕ) (input : List ℕ) (place : ℕ) (taken : Frame × ℕ)
    → frame_at sync block input place ≡ Ok taken → FrameTook sync input place taken
unfolding frame_at
frame_took sync block input place taken read =
    bind_then (count_at block input place) _ taken read (λ count first others.
    bind_then (count_at block input count.1) _ taken others (λ size second others.
    bind_then (part_at size.0 input size.1) _ taken others (λ end third others.
    bind_then (part_at 16 input end) _ taken others (λ after fourth tested.
    let test = test_passed (bytes_eq (slice_range input end after) sync) _ (Sync block) taken tested in
    let is = frame_of sync input place count size end after (count_took block input place count first) (count_took block input count.1 size second) third fourth test.0 in
    subst (FrameTook sync input place) (ok_is _ taken test.1) is))))

-- a block takes a byte at least
pub block_some : (sync : List ℕ) (block : Block) (bytes : List ℕ) → SpellsBlock sync block bytes → 0 < length bytes
block_some sync block bytes spelled = omega (arith, ap length spelled.whole, length-append spelled.count (spelled.size ++ (block.bytes ++ sync)), number_some spelled.count (pos spelled.many) spelled.counts)

-- what a block that is spelled reads as
pub record FrameAgain (sync : List ℕ) (number : ℕ) (input : List ℕ) (place : ℕ) (bytes : List ℕ) (block : Block) : Type 0 where
  pub frame : Frame
  pub read : frame_at sync number input place ≡ Ok (frame, place + length bytes)
  pub block_is : block_of input frame ≡ block

-- what is spelled so is read, whatever follows
pub frame_again : (sync : List ℕ) (number : ℕ) (input : List ℕ) (place : ℕ) (bytes rest : List ℕ) (block : Block)
    → length sync ≡ 16 → drop place input ≡ bytes ++ rest → SpellsBlock sync block bytes
    → FrameAgain sync number input place bytes block
unfolding frame_at
frame_again sync number input place bytes rest block marker parts spelled =
    let objects = block.bytes in
    let regrouped : (spelled.count ++ (spelled.size ++ (objects ++ sync))) ++ rest ≡ spelled.count ++ (spelled.size ++ (objects ++ (sync ++ rest))) = simp append_assoc in
    let whole : drop place input ≡ spelled.count ++ (spelled.size ++ (objects ++ (sync ++ rest))) = parts ∙ ap (λ (x : List ℕ). x ++ rest) spelled.whole ∙ regrouped in
    let count = count_again number input place spelled.count (spelled.size ++ (objects ++ (sync ++ rest))) spelled.many whole spelled.counts in
    let at = place + length spelled.count in
    let behind = behind_is input place spelled.count (spelled.size ++ (objects ++ (sync ++ rest))) whole in
    let size = count_again number input at spelled.size (objects ++ (sync ++ rest)) (length objects) behind spelled.sizes in
    let start = at + length spelled.size in
    let there = behind_is input at spelled.size (objects ++ (sync ++ rest)) behind in
    let lengths : length input - start ≡ length objects + (16 + length rest) = omega (arith, length-drop start input, ap length there, length-append objects (sync ++ rest), length-append sync rest) in
    let end = part_again (length objects) input start (omega arith) in
    let last = behind_is input start objects (sync ++ rest) there in
    let after = part_again 16 input (start + length objects) (omega arith) in
    let mark = start + length objects in
    let marker_is : slice_range input mark (mark + 16) ≡ sync =
    ap (λ (n : ℕ). slice_range input mark (mark + n)) (sym marker) ∙ slice_is input mark sync rest last in
    let same : bytes_eq (slice_range input mark (mark + 16)) sync ≡ true = (bytes_eq-Decides _ _).1 marker_is in
    let ends : start + length objects + 16 ≡ place + length bytes = omega (arith, ap length spelled.whole, length-append spelled.count (spelled.size ++ (objects ++ sync)), length-append spelled.size (objects ++ sync), length-append objects sync) in
    let objects_are : slice_range input start (start + length objects) ≡ objects = slice_is input start objects (sync ++ rest) there in
    record {
      frame = record { count = spelled.many; start = start; end = start + length objects };
      read = rw (count, size, end, after, same, ends) refl;
      block_is = rw (objects_are, ← spelled.counted) refl;
    }
