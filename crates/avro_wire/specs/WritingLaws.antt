-- What is put spells what it was put for.
use Rattle.std.proofs.Common.{◌≡◌, ℕ, ◌+◌, ◌*◌, ◌/◌, ◌%◌, ◌^◌, ◌<◌, ◌≤◌, ℤ, pos, negsuc, neg_ℤ, ◌<ℤ◌, ◌≤ℤ◌, List, []}
use Rattle.std.proofs.Common.{◌∷◌, ◌++◌, length, All, inl, refl, sym, arith}
use Rattle.std.specs.List.{flat_map}
use Rattle.std.proofs.lemmas.Int.{ints}
use Rattle.std.proofs.lemmas.List.{append_assoc, append-nil}
use Rattle.std.proofs.lemmas.List.Elements.{All-head, All-tail}
use Rattle.avro_wire.specs.Number.{Bounds, long, int, unzigzag, SpellsNumber}
use Rattle.avro_wire.specs.Blocks.{SpellsBytes, SpellsItems, IsCounted, SpellsList}
use Rattle.avro_wire.specs.Writing.{zigzag, groups_of, number_text, size_text, bytes_text, list_text}
use Rattle.avro_wire.specs.GroupsLaws.{groups_few, groups_right}

-- ---- numbers

-- zig-zag is undone
zigzag_back : (value : ℤ) → unzigzag (zigzag value) ≡ value
zigzag_back (pos n) =
    let even : 2 * n % 2 ≡ 0 = omega arith in
    let half : 2 * n / 2 ≡ n = omega arith in
    rw (even, half) refl
zigzag_back (negsuc n) =
    let odd : (2 * n + 1) % 2 ≡ 1 = omega arith in
    let half : (2 * n + 1) / 2 ≡ n = omega arith in
    rw (odd, half) refl

-- a number between a power and its negative stands for less than twice that
zigzag_below : (most : ℕ) (value : ℤ) → neg_ℤ (pos most) ≤ℤ value → value <ℤ pos most → zigzag value < 2 * most
zigzag_below most (pos n) low high = omega (arith, ints)
zigzag_below most (negsuc n) low high = omega (arith, ints)

-- a number whose groups are few and small enough is spelled by them
spelled_within : (bounds : Bounds) (value : ℤ)
    → length (groups_of (zigzag value)) ≤ bounds.bytes → zigzag value ≤ bounds.largest
    → SpellsNumber bounds (number_text value) value
unfolding number_text
spelled_within bounds value short fits =
    let right = groups_right (zigzag value) in
    record {
      groups = right.groups;
      short = short;
      fits = rw right.value_is fits;
      value_is = rw right.value_is (sym (zigzag_back value));
    }

-- a number of 64 bits is spelled by its text
pub long_spelled : (value : ℤ) → neg_ℤ (pos (2 ^ 63)) ≤ℤ value → value <ℤ pos (2 ^ 63)
    → SpellsNumber long (number_text value) value
long_spelled value low high =
    let fits : zigzag value < 2 ^ 64 = zigzag_below (2 ^ 63) value low high in
    spelled_within long value (groups_few 9 (zigzag value) (omega arith)) (omega arith)

-- a number of 32 bits is spelled by its text
pub int_spelled : (value : ℤ) → neg_ℤ (pos (2 ^ 31)) ≤ℤ value → value <ℤ pos (2 ^ 31)
    → SpellsNumber int (number_text value) value
int_spelled value low high =
    let fits : zigzag value < 2 ^ 32 = zigzag_below (2 ^ 31) value low high in
    spelled_within int value (groups_few 4 (zigzag value) (omega arith)) (omega arith)

-- a count or a size that fits 64 bits is spelled by its text
pub count_spelled : (n : ℕ) → n < 2 ^ 63 → SpellsNumber long (number_text (pos n)) (pos n)
count_spelled n below = long_spelled (pos n) (search (arith, ints)) (omega (arith, ints))

-- ---- bytes after their length, and lists in one block

-- bytes that are few enough are spelled by their text
pub bytes_spelled : (value : List ℕ) → length value < 2 ^ 63 → SpellsBytes value (bytes_text value)
unfolding bytes_text
bytes_spelled value below = record {
  front = size_text value;
  rest = value;
  parts = refl;
  first = count_spelled (length value) below;
  second = refl;
}

-- items are spelled by their texts, if the text of each one spells it
pub items_spelled : {A : Type 0} (SpellsItem : A → List ℕ → Type 0) (item_text : A → List ℕ) (items : List A)
    → All (λ item. SpellsItem item (item_text item)) items
    → SpellsItems SpellsItem items (flat_map item_text items)
items_spelled SpellsItem item_text [] each = refl
items_spelled SpellsItem item_text (item ∷ items) each =
    let others = All-tail (λ item. SpellsItem item (item_text item)) item items each in
    record {
      front = item_text item;
      rest = flat_map item_text items;
      parts = refl;
      first = All-head (λ item. SpellsItem item (item_text item)) item items each;
      second = items_spelled SpellsItem item_text items others;
    }

-- a list that is short enough is spelled by its text, if the text of each item spells it
pub list_spelled : {A : Type 0} (SpellsItem : A → List ℕ → Type 0) (item_text : A → List ℕ) (items : List A)
    → All (λ item. SpellsItem item (item_text item)) items → length items < 2 ^ 63
    → SpellsList SpellsItem items (list_text item_text items)
list_spelled SpellsItem item_text [] each below =
    record { blocks = []; together = refl; spelled = count_spelled 0 below }
list_spelled SpellsItem item_text (item ∷ items) each below =
    let all = item ∷ items in
    let count = number_text (pos (length all)) in
    let texts = flat_map item_text all in
    let end = number_text (pos 0) in
    let block : IsCounted SpellsItem all (count ++ texts) = record {
      some = omega arith;
      parts = record {
        front = count;
        rest = texts;
        parts = refl;
        first = count_spelled (length all) below;
        second = items_spelled SpellsItem item_text all each;
      };
    } in
    record {
      blocks = all ∷ [];
      together = append-nil all;
      spelled = record {
        front = count ++ texts;
        rest = end;
        parts = sym (append_assoc count texts end);
        first = inl block;
        second = count_spelled 0 (omega arith);
      };
    }
