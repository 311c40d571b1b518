-- The steps of the puts: the loop over the groups, and what is appended.
use Rattle.std.proofs.Common.{◌≡◌, ℕ, suc, ◌+◌, ◌/◌, ◌%◌, ◌^◌, ◌<◌, ◌≤◌, ℤ, List, ◌++◌, length, take, Result, Ok, Err}
use Rattle.std.proofs.Common.{OnOk, is_ok, if◌then◌else◌, inl, inr, refl, arith}
use Rattle.std.proofs.lemmas.Bool.{cases_lt}
use Rattle.std.proofs.lemmas.List.{append_assoc}
use Rattle.std.proofs.lemmas.Grind.{take-set_at}
use Rattle.std.proofs.Math.ListN.{set, length-set}
use Rattle.avro_wire.specs.Writing.{zigzag, groups_of, number_text, size_text, bytes_text}
use Rattle.avro_wire.specs.GroupsLaws.{groups_last, groups_more, groups_few}

-- ---- the loop over the groups

-- the bytes so far and the groups of what is left are the groups of the value, and there is room for them
pub record IsPut (bytes : List ℕ) (count left value : ℕ) : Type 0 where
  pub size : length bytes ≡ 10
  pub room : count + length (groups_of left) ≤ 10
  pub parts : take count bytes ++ groups_of left ≡ groups_of value

-- before the first group nothing is put
pub none_put : (bytes : List ℕ) (value : ℕ) → length bytes ≡ 10 → value < 2 ^ 64 → IsPut bytes 0 value value
none_put bytes value size fits = let few : length (groups_of value) ≤ 10 = groups_few 9 value (omega arith) in record { size = size; room = omega arith; parts = refl }

-- the low group of what is left is put, and another one follows
pub goes_on : (bytes : List ℕ) (count left value : ℕ) → IsPut bytes count left value → 128 ≤ left
    → IsPut (set bytes count (left % 128 + 128)) (count + 1) (left / 128) value
goes_on bytes count left value put high =
    let more = groups_more left high in
    let room : count + suc (length (groups_of (left / 128))) ≤ 10 = rw more at put.room in
    record {
      size = rw (length-set bytes count (left % 128 + 128)) put.size;
      room = omega arith;
      parts = rw (take-set_at bytes count (count + 1) (left % 128 + 128) refl (omega (arith, put.size)), append_assoc, ← more) put.parts;
    }

-- there is room for another group
pub has_room : (bytes : List ℕ) (count left value : ℕ) → IsPut bytes count left value → count < 10
has_room bytes count left value put =
    elim (cases_lt left 128) [
      | inl low ↦ let room : count + 1 ≤ 10 = rw (groups_last left low) at put.room in omega arith
      | inr high ↦ let room : count + suc (length (groups_of (left / 128))) ≤ 10 = rw (groups_more left high) at put.room in omega arith
    ]

-- the last group is put
pub ends_put : (bytes : List ℕ) (count left value : ℕ) → IsPut bytes count left value → left < 128 → take (count + 1) (set bytes count left) ≡ groups_of value
ends_put bytes count left value put low =
    let room = has_room bytes count left value put in
    rw (take-set_at bytes count (count + 1) left refl (omega (arith, put.size)), ← groups_last left low) put.parts

-- ---- what the puts leave

-- groups that are appended, or refused
pub appended : {X E : Type 0} (r : Result X E) (new old : List ℕ) (count : ℕ) (bytes : List ℕ) (groups : ℕ)
    (value : ℤ) → new ≡ (if is_ok r then old ++ take count bytes else old) → take count bytes ≡ groups_of groups
    → groups ≡ zigzag value
    → OnOk r (new ≡ old ++ number_text value)
unfolding number_text
appended (Ok x) new old count bytes groups value after parts number = cc
appended (Err e) new old count bytes groups value after parts number = tt

-- bytes behind their length
pub bytes_behind : (new between old value : List ℕ) → new ≡ between ++ value → between ≡ old ++ size_text value → new ≡ old ++ bytes_text value
unfolding bytes_text
bytes_behind new between old value last first = rw (last, first) (append_assoc old (size_text value) value)
