-- What the puts put: no spelling is shorter, and the takes read it.
use Rattle.std.proofs.Common.{◌≡◌, ℕ, ◌+◌, ◌-◌, ◌/◌, ◌%◌, ◌^◌, ◌<◌, ◌≤◌, ℤ, pos, neg_ℤ, ◌<ℤ◌, ◌≤ℤ◌, List, [], ◌∷◌}
use Rattle.std.proofs.Common.{◌++◌, length, drop, slice_range, Ok, inl, inr, refl, sym, ap, ◌∙◌, arith}
use Rattle.std.proofs.lemmas.Bool.{cases_lt}
use Rattle.std.proofs.lemmas.Int.{ints}
use Rattle.std.proofs.lemmas.List.{length-append, append_assoc, drop-drop, take_at, drop_at}
use Rattle.avro_wire.specs.Number.{Bounds, long, int, IsGroups, groups_value, unzigzag, SpellsNumber}
use Rattle.avro_wire.specs.Reading.{number_at, bytes_at}
use Rattle.avro_wire.specs.Writing.{zigzag, groups_of, number_text, size_text, bytes_text}
use Rattle.avro_wire.specs.GroupsLaws.{groups_last, groups_more}
use Rattle.avro_wire.specs.ReadingLaws.{number_again, bytes_again}
use Rattle.avro_wire.specs.WritingLaws.{long_spelled, int_spelled}

-- no other groups of the value are fewer
pub groups_fewest : (bytes : List ℕ) (n : ℕ) → IsGroups bytes → groups_value bytes ≡ n → length (groups_of n) ≤ length bytes
groups_fewest [] n groups value = absurd groups
groups_fewest (b ∷ []) n groups value = rw (groups_last n (omega arith)) (omega arith)
groups_fewest (b ∷ c ∷ bytes) n groups value =
    elim (cases_lt n 128) [
      | inl low ↦ rw (groups_last n low) (omega arith)
      | inr high ↦ rw (groups_more n high) (let others = groups_fewest (c ∷ bytes) (n / 128) groups.1 (omega arith) in omega arith)
    ]

-- zig-zag undoes what stands for numbers so
pub zigzag_forth : (n : ℕ) → zigzag (unzigzag n) ≡ n
zigzag_forth n =
    elim (cases_lt (n % 2) 1) [
      | inl even ↦ let none : n % 2 ≡ 0 = omega arith in rw none (omega arith)
      | inr odd ↦ let one : n % 2 ≡ 1 = omega arith in rw one (omega arith)
    ]

-- no spelling of a number is shorter
pub number_shortest : (bounds : Bounds) (value : ℤ) (bytes : List ℕ) → SpellsNumber bounds bytes value → length (number_text value) ≤ length bytes
unfolding number_text
number_shortest bounds value bytes spelled =
    groups_fewest bytes (zigzag value) spelled.groups (sym (ap zigzag spelled.value_is ∙ zigzag_forth (groups_value bytes)))

-- ---- what is put is read

-- a number of 64 bits
pub long_text_again : (input : List ℕ) (place : ℕ) (rest : List ℕ) (value : ℤ)
    → drop place input ≡ number_text value ++ rest → neg_ℤ (pos (2 ^ 63)) ≤ℤ value → value <ℤ pos (2 ^ 63)
    → number_at long input place ≡ Ok (value, place + length (number_text value))
long_text_again input place rest value parts low high = number_again long input place (number_text value) rest value parts (long_spelled value low high)

-- a number of 32 bits
pub int_text_again : (input : List ℕ) (place : ℕ) (rest : List ℕ) (value : ℤ)
    → drop place input ≡ number_text value ++ rest → neg_ℤ (pos (2 ^ 31)) ≤ℤ value → value <ℤ pos (2 ^ 31)
    → number_at int input place ≡ Ok (value, place + length (number_text value))
int_text_again input place rest value parts low high = number_again int input place (number_text value) rest value parts (int_spelled value low high)

-- bytes: where they are found
pub bytes_text_again : (input : List ℕ) (place : ℕ) (rest value : List ℕ) → drop place input ≡ bytes_text value ++ rest → length value < 2 ^ 63
    → bytes_at input place ≡ Ok (place + length (size_text value), place + length (bytes_text value))
unfolding bytes_text
bytes_text_again input place rest value parts below =
    let size = size_text value in
    let apart : drop place input ≡ size ++ (value ++ rest) = parts ∙ append_assoc size value rest in
    let enough : length value ≤ length (value ++ rest) = omega (arith, length-append value rest) in
    let end : place + length size + length value ≡ place + length (size ++ value) = omega (arith, length-append size value) in
    bytes_again input place size (value ++ rest) (length value) apart (long_spelled (pos (length value)) (search (arith, ints)) (omega (arith, ints))) enough ∙ ap (λ (n : ℕ). Ok (place + length size, n)) end

-- bytes: that they stand there
pub bytes_text_inside : (input : List ℕ) (place : ℕ) (rest value : List ℕ) → drop place input ≡ bytes_text value ++ rest
    → slice_range input (place + length (size_text value)) (place + length (bytes_text value)) ≡ value
unfolding bytes_text
bytes_text_inside input place rest value parts =
    let size = size_text value in
    let count : place + length (size ++ value) - (place + length size) ≡ length value = omega (arith, length-append size value) in
    let apart : drop place input ≡ size ++ (value ++ rest) = parts ∙ append_assoc size value rest in
    let behind : drop (place + length size) input ≡ value ++ rest = sym (drop-drop (length size) place input) ∙ ap (drop (length size)) apart ∙ drop_at size (value ++ rest) (length size) refl in
    rw (count, behind) (take_at value rest (length value) refl)
