-- Groups of seven bits: what one more of them adds, and what the bytes so far say of the number.
use Rattle.std.proofs.Common.{◌≡◌, ℕ, ◌+◌, ◌*◌, ◌%◌, ◌^◌, ◌<◌, ◌≤◌, true, false, List, [], ◌∷◌, ◌++◌, length, get_or}
use Rattle.std.proofs.Common.{take, drop, refl, sym, ◌∙◌, arith, below_more}
use Rattle.std.proofs.lemmas.Nat.{pow-add, pow_pos}
use Rattle.std.proofs.Math.Nat.{mul-le-mul_right, pow-le-pow_right, mod-eq_of_lt, mul_comm, mul_assoc}
use Rattle.std.specs.Prelude.{nat_le, nat_lt, Ok, Err}
use Rattle.std.specs.List.{prefix_len}
use Rattle.std.proofs.Common.{inl, inr}
use Rattle.std.proofs.lemmas.Bool.{cases_lt, le-leb, lt-leb, le-ltb, lt-ltb}
use Rattle.std.proofs.lemmas.List.{length-drop, length-take-le, take_more, get_or-drop}
use Rattle.std.proofs.lemmas.List.Sums.{prefix_len_is}
use Rattle.avro_wire.specs.declared.refusal.WireRefusal.TheVariants.{Short, TooLong}
use Rattle.avro_wire.specs.Number.{Bounds, groups_value}
use Rattle.avro_wire.specs.Reading.{has_high_bit, high_bytes, groups_at}
use Rattle.avro_wire.specs.GroupsLaws.{high_at_least}

-- a group of seven bits at a shift that leaves room for it
pub group_room : (g k : ℕ) → g < 128 → k + 7 ≤ 64 → g * 2 ^ k + 2 ^ k ≤ 2 ^ 64
group_room g k lt le =
    let more : (g + 1) * 2 ^ k ≤ 128 * 2 ^ k = mul-le-mul_right (2 ^ k) (omega arith) in
    let joined : 2 ^ (7 + k) ≡ 2 ^ 7 * 2 ^ k = pow-add 2 7 k in
    let high : 2 ^ (7 + k) ≤ 2 ^ 64 = let within : 7 + k ≤ 64 = omega arith in pow-le-pow_right {n = 2} (omega arith) within in
    omega arith

-- one bit at the tenth byte's shift has room, too
pub bit_room : (g count : ℕ) → count ≡ 9 → g ≤ 1 → g * 2 ^ (7 * count) + 2 ^ (7 * count) ≤ 2 ^ 64
bit_room g count nine le = rw nine (omega arith)

-- such a group is not cut by the shift
pub group_whole : (g k : ℕ) → g * 2 ^ k + 2 ^ k ≤ 2 ^ 64 → g * 2 ^ k % 2 ^ 64 ≡ g * 2 ^ k
group_whole g k room = mod-eq_of_lt (omega (arith, pow_pos k))

-- the value so far, with a group at its top, stays below the next power
pub group_below : (v g k : ℕ) → v < 2 ^ k → g < 128 → v + g * 2 ^ k < 2 ^ (k + 7)
group_below v g k so_far lt =
    let more : (g + 1) * 2 ^ k ≤ 128 * 2 ^ k = mul-le-mul_right (2 ^ k) (omega arith) in
    let joined : 2 ^ (k + 7) ≡ 2 ^ k * 2 ^ 7 = pow-add 2 k 7 in
    omega arith

-- one more byte adds its group above those so far
pub groups_value-push : (bytes : List ℕ) (b : ℕ) → groups_value (bytes ++ b ∷ []) ≡ groups_value bytes + (b % 128) * 2 ^ (7 * length bytes)
groups_value-push [] b = omega arith
groups_value-push (x ∷ bytes) b =
    let rest = groups_value-push bytes b in
    let k = 7 * length bytes in
    let joined : 2 ^ (7 + k) ≡ 2 ^ 7 * 2 ^ k = pow-add 2 7 k in
    let turned : 128 * ((b % 128) * 2 ^ k) ≡ (b % 128) * 2 ^ (7 + k) = rw (joined, ← mul_assoc 128 (b % 128) (2 ^ k), mul_comm 128 (b % 128), mul_assoc (b % 128) 128 (2 ^ k)) refl in
    let power : 7 * length (x ∷ bytes) ≡ 7 + k = omega arith in
    rw (power, ← turned, rest) (omega arith)

-- ---- what the bytes that were passed say of what is read

-- the first count bytes all have the high bit, and these are their groups
pub record IsRead (rest : List ℕ) (count value : ℕ) : Type 0 where
  pub high : (k : ℕ) → k < count → has_high_bit (get_or rest k 0) ≡ true
  pub value_is : value ≡ groups_value (take count rest)
  pub below : value < 2 ^ (7 * count)
  pub within : count ≤ length rest

-- before the first byte nothing is read
pub none_read : (rest : List ℕ) → IsRead rest 0 0
none_read rest = record { high = λ k lt. absurd (omega arith); value_is = refl; below = omega arith; within = omega arith }

-- the groups of the bytes so far and one more
one_more : (rest : List ℕ) (count value byte : ℕ) → IsRead rest count value → count < length rest → byte ≡ get_or rest count 0
    → groups_value (take (count + 1) rest) ≡ value + (byte % 128) * 2 ^ (7 * count)
one_more rest count value byte read more byte-is =
    rw (take_more rest count 0 more, groups_value-push (take count rest) (get_or rest count 0), length-take-le count rest read.within, ← read.value_is, ← byte-is) refl

-- a byte with the high bit is read, and the number goes on
pub goes_on : (rest : List ℕ) (count value byte : ℕ) → IsRead rest count value → count < length rest → byte ≡ get_or rest count 0 → 128 ≤ byte
    → value + (byte % 128) * 2 ^ (7 * count) < 2 ^ (7 * count + 7) → IsRead rest (count + 1) (value + (byte % 128) * 2 ^ (7 * count))
goes_on rest count value byte read more byte-is high below =
    let power : 7 * (count + 1) ≡ 7 * count + 7 = omega arith in
    record {
      high = below_more _ _ read.high (rw (← byte-is) (le-leb _ _ high));
      value_is = sym (one_more rest count value byte read more byte-is);
      below = rw power below;
      within = omega arith;
    }

-- the input ends behind them
pub ends_short : (bounds : Bounds) (input : List ℕ) (place count value : ℕ) → place ≤ length input
    → IsRead (drop place input) count value → count < bounds.bytes → length input ≤ place + count
    → groups_at bounds input place ≡ Err (Short place)
unfolding groups_at
ends_short bounds input place count value start read more ended =
    let high : prefix_len has_high_bit (drop place input) ≡ count = prefix_len_is has_high_bit (drop place input) count 0 read.within read.high (λ lt. absurd (omega (arith, length-drop place input))) in
    let few : nat_le bounds.bytes count ≡ false = lt-leb _ _ more in
    let short : nat_le (length input) (place + count) ≡ true = le-leb _ _ ended in
    rw (high, few, short) refl

-- they are as many as may be
pub ends_long : (bounds : Bounds) (input : List ℕ) (place count : ℕ) → bounds.bytes ≤ count
    → count ≤ length (drop place input) → ((k : ℕ) → k < count → has_high_bit (get_or (drop place input) k 0) ≡ true)
    → groups_at bounds input place ≡ Err (TooLong place)
unfolding groups_at
ends_long bounds input place count most within high =
    let many : nat_le bounds.bytes (high_bytes input place) ≡ true = le-leb _ _ (omega (arith, high_at_least (drop place input) count within high)) in
    rw many refl

-- the byte behind them is the number's last
record IsLast (bounds : Bounds) (input : List ℕ) (place count value : ℕ) : Type 0 where
  high : high_bytes input place ≡ count
  value_is : groups_value (take (count + 1) (drop place input)) ≡ value
  few : nat_le bounds.bytes count ≡ false
  short : nat_le (length input) (place + count) ≡ false

last_byte : (bounds : Bounds) (input : List ℕ) (place count value byte : ℕ) → IsRead (drop place input) count value
    → count < bounds.bytes → place + count < length input → byte ≡ get_or input (place + count) 0 → byte < 128
    → IsLast bounds input place count (value + (byte % 128) * 2 ^ (7 * count))
last_byte bounds input place count value byte read room more byte-is low =
    let here : byte ≡ get_or (drop place input) count 0 = byte-is ∙ sym (get_or-drop place input count 0) in
    let inside : count < length (drop place input) = omega (arith, length-drop place input) in
    record {
      high = prefix_len_is has_high_bit (drop place input) count 0 read.within read.high (λ lt. rw (← here) (lt-leb _ _ low));
      value_is = one_more (drop place input) count value byte read inside here;
      few = lt-leb _ _ room;
      short = lt-leb _ _ more;
    }

-- and its value fits
pub ends_well : (bounds : Bounds) (input : List ℕ) (place count value byte : ℕ)
    → IsRead (drop place input) count value → count < bounds.bytes → place + count < length input
    → byte ≡ get_or input (place + count) 0 → byte < 128
    → value + (byte % 128) * 2 ^ (7 * count) ≤ bounds.largest → groups_at bounds input place ≡ Ok (value + (byte % 128) * 2 ^ (7 * count), place + count + 1)
unfolding groups_at
ends_well bounds input place count value byte read room more byte-is low fits =
    let last = last_byte bounds input place count value byte read room more byte-is low in
    let small : nat_lt bounds.largest (value + (byte % 128) * 2 ^ (7 * count)) ≡ false = le-ltb _ _ fits in
    rw (last.high, last.few, last.short, last.value_is, small) refl

-- or is too large
pub ends_large : (bounds : Bounds) (input : List ℕ) (place count value byte : ℕ)
    → IsRead (drop place input) count value → count < bounds.bytes → place + count < length input
    → byte ≡ get_or input (place + count) 0 → byte < 128
    → bounds.largest < value + (byte % 128) * 2 ^ (7 * count) → groups_at bounds input place ≡ Err (TooLong place)
unfolding groups_at
ends_large bounds input place count value byte read room more byte-is low large =
    let last = last_byte bounds input place count value byte read room more byte-is low in
    let big : nat_lt bounds.largest (value + (byte % 128) * 2 ^ (7 * count)) ≡ true = lt-ltb _ _ large in
    rw (last.high, last.few, last.short, last.value_is, big) refl

-- a tenth byte above 1 goes on or is too large
pub ends_tenth : (bounds : Bounds) (input : List ℕ) (place value byte : ℕ) → IsRead (drop place input) 9 value
    → 9 < bounds.bytes → bounds.bytes ≤ 10 → bounds.largest < 2 ^ 64 → place + 9 < length input
    → byte ≡ get_or input (place + 9) 0 → 1 < byte
    → groups_at bounds input place ≡ Err (TooLong place)
ends_tenth bounds input place value byte read room most fits more byte-is above =
    let here : byte ≡ get_or (drop place input) 9 0 = byte-is ∙ sym (get_or-drop place input 9 0) in
    elim (cases_lt byte 128) [
      | inl low ↦ ends_large bounds input place 9 value byte read room more byte-is low (omega arith)
      | inr high ↦ ends_long bounds input place 10 most (omega (arith, length-drop place input)) (below_more (λ k. has_high_bit (get_or (drop place input) k 0) ≡ true) 9 read.high (rw (← here) (le-leb _ _ high)))
    ]
