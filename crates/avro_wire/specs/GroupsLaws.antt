-- Groups of seven bits: which bytes are groups, and the groups of a value.
use Rattle.std.proofs.Common.{◌≡◌, ℕ, zero, suc, ◌+◌, ◌*◌, ◌/◌, ◌%◌, ◌^◌, ◌<◌, ◌≤◌, true, List, [], ◌∷◌, ◌++◌}
use Rattle.std.proofs.Common.{length, get_or, take, All, nat_le, inl, inr, refl, sym, ◌∙◌, arith}
use Rattle.std.specs.List.{prefix_len}
use Rattle.std.proofs.lemmas.Bool.{cases_lt, cases_Bool, false≢true, leb-true, leb-false, le-leb, lt-leb, lt-ltb}
use Rattle.std.proofs.lemmas.Bool.{le-ltb}
use Rattle.std.proofs.lemmas.List.{length-take-le, get_or-take}
use Rattle.std.proofs.lemmas.List.Elements.{All-from_get_or, All-get_or}
use Rattle.std.proofs.lemmas.List.Sums.{prefix_len_passes, prefix_len_stops, prefix_len-le-length}
use Rattle.std.proofs.lemmas.Nat.{pow-add}
use Rattle.avro_wire.specs.Number.{IsGroups, groups_value}
use Rattle.avro_wire.specs.Reading.{has_high_bit}
use Rattle.avro_wire.specs.Writing.{groups_within, groups_of}

-- ---- groups and the high bit

-- a byte with the high bit before groups makes groups again
pub groups_cons : (b : ℕ) (bytes : List ℕ) → 128 ≤ b → IsGroups bytes → IsGroups (b ∷ bytes)
groups_cons b [] high groups = absurd groups
groups_cons b (c ∷ bytes) high groups = (high, groups)

-- the bytes with the high bit and the one after them are groups
pub groups_front : (rest : List ℕ) → prefix_len has_high_bit rest < length rest
    → IsGroups (take (prefix_len has_high_bit rest + 1) rest)
groups_front [] inside = absurd (omega arith)
groups_front (b ∷ rest) inside =
    let count = prefix_len has_high_bit rest in
    elim (cases_Bool (nat_le 128 b)) [
      | inl high ↦
          let one : prefix_len has_high_bit (b ∷ rest) + 1 ≡ suc (count + 1) = rw high (omega arith) in
          rw one (groups_cons b (take (count + 1) rest) (leb-true 128 b high) (groups_front rest (omega arith)))
      | inr low ↦ rw low (leb-false 128 b low)
    ]

-- all bytes of groups but the last have the high bit, whatever follows
pub groups_high : (bytes after : List ℕ) → IsGroups bytes
    → prefix_len has_high_bit (bytes ++ after) + 1 ≡ length bytes
groups_high [] after groups = absurd groups
groups_high (b ∷ []) after groups = rw (lt-leb 128 b groups) refl
groups_high (b ∷ c ∷ bytes) after groups =
    let others = groups_high (c ∷ bytes) after groups.1 in
    rw (le-leb 128 b groups.0) (omega arith)

-- so many bytes at the front have the high bit
pub high_front : (count : ℕ) (rest : List ℕ) → count ≤ prefix_len has_high_bit rest → All (λ b. 128 ≤ b)
    (take count rest)
high_front count rest le =
    let within : count ≤ length rest = omega (arith, prefix_len-le-length has_high_bit rest) in
    All-from_get_or (λ b. 128 ≤ b) (take count rest) 0 (λ i lt.
    let inside : i < count = omega (arith, length-take-le count rest within) in
    let passes = prefix_len_passes has_high_bit rest i 0 (omega arith) in
    rw (get_or-take count rest i 0 inside) (leb-true 128 (get_or rest i 0) passes))

-- bytes that have it at the front are counted
pub high_at_least : (rest : List ℕ) (count : ℕ) → count ≤ length rest
    → ((k : ℕ) → k < count → has_high_bit (get_or rest k 0) ≡ true) → count ≤ prefix_len has_high_bit rest
high_at_least rest count within high =
    let found = prefix_len has_high_bit rest in
    elim (cases_lt found count) [
      | inl lt ↦ absurd (false≢true (sym (prefix_len_stops has_high_bit rest 0 (omega arith)) ∙ high found lt))
      | inr le ↦ le
    ]

-- so many bytes that have it are counted
pub front_high : (count : ℕ) (rest : List ℕ) → count ≤ length rest → All (λ b. 128 ≤ b) (take count rest)
    → count ≤ prefix_len has_high_bit rest
front_high count rest within high =
    high_at_least rest count within (λ k lt.
    let inside : k < length (take count rest) = omega (arith, length-take-le count rest within) in
    let each = All-get_or (λ b. 128 ≤ b) (take count rest) k 0 inside high in
    let here : 128 ≤ get_or rest k 0 = rw (get_or-take count rest k 0 lt) at each in
    le-leb 128 (get_or rest k 0) here)

-- ---- the groups of a value

-- any count that is large enough gives the same groups
groups_same : (a b n : ℕ) → n ≤ a → n ≤ b → groups_within a n ≡ groups_within b n
unfolding groups_within
groups_same zero zero n x y = refl
groups_same zero (suc b) n x y = rw (lt-ltb n 128 (omega arith)) refl
groups_same (suc a) zero n x y = rw (lt-ltb n 128 (omega arith)) refl
groups_same (suc a) (suc b) n x y =
    elim (cases_lt n 128) [
      | inl low ↦ rw (lt-ltb n 128 low) refl
      | inr high ↦ rw (le-ltb n 128 high, groups_same a b (n / 128) (omega arith) (omega arith)) refl
    ]

-- a value below 128 is its one group
pub groups_last : (n : ℕ) → n < 128 → groups_of n ≡ n ∷ []
unfolding groups_of groups_within
groups_last zero low = refl
groups_last (suc n) low = rw (lt-ltb (suc n) 128 low) refl

-- a larger one is its low group with the high bit, and the groups of the rest
pub groups_more : (n : ℕ) → 128 ≤ n → groups_of n ≡ (n % 128 + 128) ∷ groups_of (n / 128)
unfolding groups_of groups_within
groups_more zero high = absurd (omega arith)
groups_more (suc n) high =
    rw (le-ltb (suc n) 128 high, groups_same n (suc n / 128) (suc n / 128) (omega arith) (omega arith)) refl

-- these bytes are groups of this value
pub record AreGroups (bytes : List ℕ) (n : ℕ) : Type 0 where
  pub groups : IsGroups bytes
  pub value_is : groups_value bytes ≡ n

-- the groups of a value that is no more than a count are groups of it
groups_right_within : (count n : ℕ) → n ≤ count → AreGroups (groups_of n) n
groups_right_within zero n within =
    rw (groups_last n (omega arith)) (record { groups = omega arith; value_is = omega arith })
groups_right_within (suc count) n within =
    elim (cases_lt n 128) [
      | inl low ↦ rw (groups_last n low) (record { groups = low; value_is = omega arith })
      | inr high ↦
          let behind = groups_of (n / 128) in
          let others = groups_right_within count (n / 128) (omega arith) in
          rw (groups_more n high) (record {
            groups = groups_cons (n % 128 + 128) behind (omega arith) others.groups;
            value_is = rw others.value_is (omega arith);
          })
    ]

-- the groups of a value are groups of it
pub groups_right : (n : ℕ) → AreGroups (groups_of n) n
groups_right n = groups_right_within n n (omega arith)

-- each group holds seven bits
pub groups_few : (k n : ℕ) → n < 2 ^ (7 * k + 7) → length (groups_of n) ≤ k + 1
groups_few zero n below = rw (groups_last n (omega arith)) (omega arith)
groups_few (suc k) n below =
    elim (cases_lt n 128) [
      | inl low ↦ rw (groups_last n low) (omega arith)
      | inr high ↦
          let power : 7 * suc k + 7 ≡ 7 + (7 * k + 7) = omega arith in
          let joined : 2 ^ (7 * suc k + 7) ≡ 2 ^ 7 * 2 ^ (7 * k + 7) = rw power (pow-add 2 7 (7 * k + 7)) in
          rw (groups_more n high) (let others = groups_few k (n / 128) (omega arith) in omega arith)
    ]
