-- Reading blocks one after the other, as a loop does.
use Rattle.std.proofs.Common.{◌≡◌, ℕ, suc, ◌+◌, ◌-◌, ◌<◌, ◌≤◌, Bool, true, false, List, None, Some, Result, Ok, Err}
use Rattle.std.proofs.Common.{refl, sym, ap, ◌∙◌, arith}
use Rattle.std.specs.Prelude.{ℤ, pos, negsuc, ◌==◌, if◌then◌else◌}
use Rattle.std.proofs.Common.{eq-eqb}
use Rattle.std.proofs.lemmas.Bool.{ne_eqb}
use Rattle.words.specs.Reading.{◌>>=◌, map_value}
use Rattle.avro_wire.specs.Number.{long}
use Rattle.datum_reading.specs.declared.cursor.Cursor.{Cursor}
use Rattle.datum_reading.specs.declared.block.BlockHead.{BlockHead}
use Rattle.datum_reading.specs.declared.refusal.DatumRefusal.{DatumRefusal}
use Rattle.datum_reading.specs.declared.refusal.DatumRefusal.TheVariants.{Short, Size}
use Rattle.datum_reading.specs.Reading.{Reads, number_from, with_count, items_at, sized_block_at, block_at, blocks_at}
use Rattle.datum_reading.specs.Reading.{is_natural}
use Rattle.datum_reading.specs.Block.{sized_head, head_of, head_at, closed_at}

-- what reading items answers
abbrev Answer : Type 0 → Type 0
Answer A = Result (List A × Cursor) DatumRefusal

-- the items of a block whose head is read, and the blocks behind it
abbrev behind_head : {A : Type 0} → Reads A → ℕ → List A → List ℕ → BlockHead → Answer A
behind_head item tries before input head =
    if head.count == 0 then Ok (before, head.first)
    else (items_at item head.count before input head.first >>= λ block. closed_at head block.1 >>= λ after. blocks_at item tries block.0 input after)

-- the blocks, where the first one's count is read
abbrev behind_count : {A : Type 0} → Reads A → ℕ → ℕ → List A → List ℕ → ℤ × Cursor → Answer A
behind_count item place tries before input count =
    if is_natural count.0 0 then Ok (before, count.1) else (block_at item place before input count >>= λ block. blocks_at item tries block.0 input block.1)

-- where so many items may come, in a block that tells its count alone
by_room : {A : Type 0} (item : Reads A) (tries : ℕ) (before : List A) (input : List ℕ) (n : ℕ) (room : Result Cursor DatumRefusal) → (n == 0) ≡ false
    → ((room >>= λ after. items_at item n before input after) >>= λ block. blocks_at item tries block.0 input block.1)
    ≡ (map_value (λ (first : Cursor). record { count = n; size = None; first = first }) room >>= behind_head item tries before input)
by_room item tries before input n (Err e) some = refl
by_room item tries before input n (Ok after) some = rw some refl

-- a block that tells its count alone: by whether the count is 0
by_counted : {A : Type 0} (item : Reads A) (place tries : ℕ) (before : List A) (input : List ℕ) (n : ℕ) (at : Cursor) (none : Bool) → (n == 0) ≡ none
    → behind_count item place tries before input (pos n, at) ≡ (head_of place input (pos n, at) >>= behind_head item tries before input)
by_counted item place tries before input n at true is = rw (is, is) refl
by_counted item place tries before input n at false is = rw is (by_room item tries before input n (with_count place n at) is)

-- a size that is true, or not
by_test : {A : Type 0} (item : Reads A) (tries place : ℕ) (input : List ℕ) (block : List A × Cursor) (so : Bool)
    → ((if so then Ok block else Err (Size place)) >>= λ block. blocks_at item tries block.0 input block.1)
    ≡ ((if so then Ok block.1 else Err (Size place)) >>= λ after. blocks_at item tries block.0 input after)
by_test item tries place input block true = refl
by_test item tries place input block false = refl

-- the items of a block that tells its size
by_items : {A : Type 0} (item : Reads A) (tries place first : ℕ) (size : ℤ) (input : List ℕ) (items : Answer A)
    → ((items >>= λ block. if is_natural size (block.1.place - first) then Ok block else Err (Size place)) >>= λ block. blocks_at item tries block.0 input block.1)
    ≡ (items >>= λ block. (if is_natural size (block.1.place - first) then Ok block.1 else Err (Size place)) >>= λ after. blocks_at item tries block.0 input after)
by_items item tries place first size input (Err e) = refl
by_items item tries place first size input (Ok block) = by_test item tries place input block (is_natural size (block.1.place - first))

-- the size of a block that tells it
by_size : {A : Type 0} (item : Reads A) (tries place n : ℕ) (before : List A) (input : List ℕ) (size : Result (ℤ × Cursor) DatumRefusal)
    → ((size >>= λ size. items_at item (suc n) before input size.1 >>= λ block. if is_natural size.0 (block.1.place - size.1.place) then Ok block else Err (Size place)) >>= λ block. blocks_at item tries block.0 input block.1)
    ≡ ((size >>= λ size. Ok (record { count = suc n; size = Some (record { bytes = size.0; place = place }); first = size.1 })) >>= behind_head item tries before input)
by_size item tries place n before input (Err e) = refl
by_size item tries place n before input (Ok size) =
    let some : (suc n == 0) ≡ false = ne_eqb (suc n) 0 (λ none. omega arith) in
    rw some (by_items item tries place size.1.place size.0 input (items_at item (suc n) before input size.1))

-- where so many items may come, in a block that tells its size
by_room_sized : {A : Type 0} (item : Reads A) (tries n : ℕ) (before : List A) (input : List ℕ) (room : Result Cursor DatumRefusal)
    → ((room >>= λ after. sized_block_at item (suc n) before input after) >>= λ block. blocks_at item tries block.0 input block.1)
    ≡ ((room >>= λ after. number_from long input after >>= λ size. Ok (record { count = suc n; size = Some (record { bytes = size.0; place = after.place }); first = size.1 })) >>= behind_head item tries before input)
unfolding sized_block_at
by_room_sized item tries n before input (Err e) = refl
by_room_sized item tries n before input (Ok after) = by_size item tries after.place n before input (number_from long input after)

-- a block by its count
by_count : {A : Type 0} (item : Reads A) (place tries : ℕ) (before : List A) (input : List ℕ) (count : ℤ × Cursor)
    → behind_count item place tries before input count ≡ (head_of place input count >>= behind_head item tries before input)
unfolding sized_head
by_count item place tries before input (pos n, at) = by_counted item place tries before input n at (n == 0) refl
by_count item place tries before input (negsuc n, at) = by_room_sized item tries n before input (with_count place (suc n) at)

-- a count that is read or refused
by_number : {A : Type 0} (item : Reads A) (place tries : ℕ) (before : List A) (input : List ℕ) (number : Result (ℤ × Cursor) DatumRefusal)
    → (number >>= behind_count item place tries before input) ≡ ((number >>= head_of place input) >>= behind_head item tries before input)
by_number item place tries before input (Err e) = refl
by_number item place tries before input (Ok count) = by_count item place tries before input count

-- blocks are a head, its items, its end and the blocks behind
pub blocks_by_head : {A : Type 0} (item : Reads A) (tries : ℕ) (before : List A) (input : List ℕ) (at : Cursor) → blocks_at item (suc tries) before input at ≡ (head_at input at >>= behind_head item tries before input)
unfolding blocks_at head_at
blocks_by_head item tries before input at = by_number item at.place tries before input (number_from long input at)

-- ---- the steps of a loop, of which i are done

-- a step is left of those that are tried
one_left : (tries i : ℕ) → i < tries → tries - i ≡ suc (tries - (i + 1))
one_left tries i lt = omega arith

-- what is left is a head and what stands behind it
left_by_head : {A : Type 0} (item : Reads A) (tries i : ℕ) (before : List A) (input : List ℕ) (at : Cursor) (total : Answer A) → i < tries → blocks_at item (tries - i) before input at ≡ total
    → (head_at input at >>= behind_head item (tries - (i + 1)) before input) ≡ total
left_by_head item tries i before input at total lt so_far = sym (ap (λ (n : ℕ). blocks_at item n before input at) (one_left tries i lt) ∙ blocks_by_head item (tries - (i + 1)) before input at) ∙ so_far

-- a head is refused
pub head_fails : {A : Type 0} (item : Reads A) (tries i : ℕ) (before : List A) (input : List ℕ) (at : Cursor) (e : DatumRefusal) (total : Answer A) → i < tries → head_at input at ≡ Err e
    → blocks_at item (tries - i) before input at ≡ total → total ≡ Err e
head_fails item tries i before input at e total lt refused so_far = sym (left_by_head item tries i before input at total lt so_far) ∙ ap (λ r. r >>= behind_head item (tries - (i + 1)) before input) refused

-- the count is 0
pub blocks_end : {A : Type 0} (item : Reads A) (tries i : ℕ) (before : List A) (input : List ℕ) (at : Cursor) (head : BlockHead) (total : Answer A) → i < tries → head_at input at ≡ Ok head → head.count ≡ 0
    → blocks_at item (tries - i) before input at ≡ total → total ≡ Ok (before, head.first)
blocks_end item tries i before input at head total lt read none so_far =
    let here : (head.count == 0) ≡ true = eq-eqb head.count 0 none in
    sym (left_by_head item tries i before input at total lt so_far) ∙ rw (read, here) refl

-- the items of a block are refused
pub items_fail : {A : Type 0} (item : Reads A) (tries i : ℕ) (before : List A) (input : List ℕ) (at : Cursor) (head : BlockHead) (e : DatumRefusal) (total : Answer A) → i < tries → head_at input at ≡ Ok head → (head.count ≡ 0 → ⊥)
    → items_at item head.count before input head.first ≡ Err e → blocks_at item (tries - i) before input at ≡ total → total ≡ Err e
items_fail item tries i before input at head e total lt read some refused so_far =
    let here : (head.count == 0) ≡ false = ne_eqb head.count 0 some in
    sym (left_by_head item tries i before input at total lt so_far) ∙ rw (read, here, refused) refl

-- the size of a block is refused
pub size_fails : {A : Type 0} (item : Reads A) (tries i : ℕ) (before more : List A) (input : List ℕ) (at : Cursor) (head : BlockHead) (after : Cursor) (e : DatumRefusal) (total : Answer A) → i < tries → head_at input at ≡ Ok head → (head.count ≡ 0 → ⊥)
    → items_at item head.count before input head.first ≡ Ok (more, after) → closed_at head after ≡ Err e → blocks_at item (tries - i) before input at ≡ total → total ≡ Err e
size_fails item tries i before more input at head after e total lt read some items refused so_far =
    let here : (head.count == 0) ≡ false = ne_eqb head.count 0 some in
    sym (left_by_head item tries i before input at total lt so_far) ∙ rw (read, here, items, refused) refl

-- a block is read, and others stand behind it
pub blocks_on : {A : Type 0} (item : Reads A) (tries i : ℕ) (before more : List A) (input : List ℕ) (at : Cursor) (head : BlockHead) (after : Cursor) (total : Answer A) → i < tries → head_at input at ≡ Ok head → (head.count ≡ 0 → ⊥)
    → items_at item head.count before input head.first ≡ Ok (more, after) → closed_at head after ≡ Ok after → blocks_at item (tries - i) before input at ≡ total → blocks_at item (tries - (i + 1)) more input after ≡ total
blocks_on item tries i before more input at head after total lt read some items closed so_far =
    let here : (head.count == 0) ≡ false = ne_eqb head.count 0 some in
    let one : (head_at input at >>= behind_head item (tries - (i + 1)) before input) ≡ blocks_at item (tries - (i + 1)) more input after = rw (read, here, items, closed) refl in
    sym one ∙ left_by_head item tries i before input at total lt so_far

-- no more blocks are tried
pub blocks_stop : {A : Type 0} (item : Reads A) (tries i : ℕ) (before : List A) (input : List ℕ) (at : Cursor) (total : Answer A) → tries ≤ i → blocks_at item (tries - i) before input at ≡ total → total ≡ Err (Short at.place)
unfolding blocks_at
blocks_stop item tries i before input at total le so_far =
    let none : tries - i ≡ 0 = omega arith in
    sym so_far ∙ rw none refl
