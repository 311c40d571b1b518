-- What is read if the relation says what stands at a place, and what can be there.
use Rattle.std.proofs.Common.{◌≡◌, ℕ, ◌+◌, ◌-◌, ◌≤◌, ℤ, pos, true, false, List, ◌++◌, ◌⊎◌, length, take, drop, All}
use Rattle.std.proofs.Common.{Ok, Err, nat_le, nat_lt, inl, inr, refl, sym, ap, subst, ◌∙◌, arith}
use Rattle.std.specs.List.{prefix_len}
use Rattle.std.proofs.lemmas.Bool.{cases_lt, le-leb, lt-leb, lt-ltb, le-ltb}
use Rattle.std.proofs.lemmas.List.{length-drop, length-append, length-take-le, take_all, take_at, take-append-drop}
use Rattle.std.proofs.lemmas.List.Sums.{prefix_len-le-length}
use Rattle.avro_wire.specs.declared.refusal.WireRefusal.TheVariants.{Short, TooLong}
use Rattle.avro_wire.specs.Number.{Bounds, long, IsGroups, groups_value, unzigzag, SpellsNumber, EndsInside}
use Rattle.avro_wire.specs.Number.{IsTooLong, BeginsWith, Anything}
use Rattle.avro_wire.specs.Reading.{has_high_bit, high_bytes, number_bytes, groups_at, number_at, bytes_at}
use Rattle.avro_wire.specs.GroupsLaws.{groups_front, groups_high, high_front, front_high}

-- ---- numbers

-- groups at the front, of few enough bytes
record IsFront (bounds : Bounds) (input : List ℕ) (place : ℕ) (bytes : List ℕ) : Type 0 where
  few : nat_le bounds.bytes (high_bytes input place) ≡ false
  inside : nat_le (length input) (place + high_bytes input place) ≡ false
  bytes_are : number_bytes input place ≡ bytes
  after : place + high_bytes input place + 1 ≡ place + length bytes

groups_at_front : (bounds : Bounds) (input : List ℕ) (place : ℕ) (bytes after : List ℕ)
    → drop place input ≡ bytes ++ after → IsGroups bytes → length bytes ≤ bounds.bytes
    → IsFront bounds input place bytes
groups_at_front bounds input place bytes after parts groups few =
    let count : high_bytes input place + 1 ≡ length bytes = rw parts (groups_high bytes after groups) in
    let whole : length (drop place input) ≡ length bytes + length after = rw parts (length-append bytes after) in
    record {
      few = lt-leb _ _ (omega arith);
      inside = lt-leb _ _ (omega (arith, length-drop place input));
      bytes_are = rw (count, parts) (take_at bytes after (length bytes) refl);
      after = omega arith;
    }

-- bytes that spell a number are read as that number, whatever follows
pub number_again : (bounds : Bounds) (input : List ℕ) (place : ℕ) (bytes after : List ℕ) (value : ℤ)
    → drop place input ≡ bytes ++ after → SpellsNumber bounds bytes value
    → number_at bounds input place ≡ Ok (value, place + length bytes)
unfolding number_at groups_at
number_again bounds input place bytes after value parts spelled =
    let front = groups_at_front bounds input place bytes after parts spelled.groups spelled.short in
    let fits : nat_lt bounds.largest (groups_value bytes) ≡ false = le-ltb _ _ spelled.fits in
    rw (front.few, front.inside, front.bytes_are, fits, front.after, spelled.value_is) refl

-- an input that ends inside a number is refused as short
pub number_short : (bounds : Bounds) (input : List ℕ) (place : ℕ)
    → EndsInside bounds (drop place input) → number_at bounds input place ≡ Err (Short place)
unfolding number_at groups_at
number_short bounds input place ends =
    let rest = drop place input in
    let whole = take_all (length rest) rest (omega arith) in
    let high = front_high (length rest) rest (omega arith) (subst (All (λ b. 128 ≤ b)) (sym whole) ends.high) in
    let most : prefix_len has_high_bit rest ≤ length rest = prefix_len-le-length has_high_bit rest in
    let few : nat_le bounds.bytes (high_bytes input place) ≡ false = lt-leb _ _ (omega (arith, most, ends.few)) in
    let outside : nat_le (length input) (place + high_bytes input place) ≡ true =
    le-leb _ _ (omega (arith, length-drop place input, high)) in
    rw (few, outside) refl

-- too many bytes, or too large a value, are refused as too long
pub number_long : (bounds : Bounds) (input : List ℕ) (place : ℕ)
    → IsTooLong bounds (drop place input) → number_at bounds input place ≡ Err (TooLong place)
unfolding number_at groups_at
number_long bounds input place long =
    elim long [
      | inl endless ↦
          let high = front_high bounds.bytes (drop place input) endless.many endless.high in
          let many : nat_le bounds.bytes (high_bytes input place) ≡ true = le-leb _ _ high in
          rw many refl
      | inr large ↦
          let front = groups_at_front bounds input place large.bytes large.after large.parts large.groups large.short in
          let big : nat_lt bounds.largest (groups_value large.bytes) ≡ true = lt-ltb _ _ large.large in
          rw (front.few, front.inside, front.bytes_are, big) refl
    ]

-- a number is there, or the input ends inside one, or what is there is too long for one
pub front_cases : (bounds : Bounds) (rest : List ℕ)
    → BeginsWith bounds rest Anything ⊎ (EndsInside bounds rest ⊎ IsTooLong bounds rest)
front_cases bounds rest =
    let count = prefix_len has_high_bit rest in
    let bytes = take (count + 1) rest in
    let after = drop (count + 1) rest in
    elim (cases_lt count bounds.bytes) [
      | inl few ↦ elim (cases_lt count (length rest)) [
        | inl inside ↦
            let long : length bytes ≡ count + 1 = length-take-le (count + 1) rest (omega arith) in
            let parts = sym (take-append-drop (count + 1) rest) in
            let groups = groups_front rest inside in
            elim (cases_lt bounds.largest (groups_value bytes)) [
              | inl large ↦ inr (inr (inr (record {
                bytes = bytes;
                after = after;
                parts = parts;
                groups = groups;
                short = omega arith;
                large = large;
              })))
              | inr fits ↦ inl (record {
                bytes = bytes;
                after = after;
                value = unzigzag (groups_value bytes);
                parts = parts;
                spelled = record { groups = groups; short = omega arith; fits = fits; value_is = refl };
                such = tt;
              })
            ]
        | inr outside ↦ inr (inl (record {
          few = omega arith;
          high = rw (take_all count rest outside) at (high_front count rest (omega arith));
        }))
      ]
      | inr many ↦ inr (inr (inl (record {
        many = omega (arith, prefix_len-le-length has_high_bit rest);
        high = high_front bounds.bytes rest many;
      })))
    ]

-- ---- bytes after their length

-- so many bytes follow the number at the front
pub left_behind : (input : List ℕ) (place : ℕ) (bytes after : List ℕ)
    → drop place input ≡ bytes ++ after → length input - (place + length bytes) ≡ length after
left_behind input place bytes after parts =
    let whole : length (drop place input) ≡ length bytes + length after = ap length parts ∙ length-append bytes after in
    omega (arith, length-drop place input)

-- bytes after their length are found, whatever follows
pub bytes_again : (input : List ℕ) (place : ℕ) (bytes after : List ℕ) (size : ℕ)
    → drop place input ≡ bytes ++ after → SpellsNumber long bytes (pos size) → size ≤ length after
    → bytes_at input place ≡ Ok (place + length bytes, place + length bytes + size)
unfolding bytes_at
bytes_again input place bytes after size parts spelled enough =
    let fits : nat_lt (length input - (place + length bytes)) size ≡ false =
    le-ltb _ _ (omega (arith, left_behind input place bytes after parts)) in
    rw (number_again long input place bytes after (pos size) parts spelled, fits) refl
