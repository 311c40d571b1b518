-- Bytes behind a length, by the relation: what can stand there, and what is read.
use Rattle.std.proofs.Common.{◌≡◌, ℕ, ◌+◌, ◌-◌, ◌≤◌, ℤ, pos, negsuc, ◌<ℤ◌, true, List, ◌++◌, ◌⊎◌, ◌↔◌, length}
use Rattle.std.proofs.Common.{drop, slice_range, Result, Ok, Err, IfOk, nat_lt, inl, inr, refl, sym, ◌∙◌, arith}
use Rattle.std.proofs.lemmas.Bool.{cases_lt, lt-ltb}
use Rattle.std.proofs.lemmas.Int.{ints}
use Rattle.avro_wire.specs.declared.refusal.WireRefusal.{WireRefusal}
use Rattle.avro_wire.specs.declared.refusal.WireRefusal.TheVariants.{Short, TooLong}
use Rattle.avro_wire.specs.Number.{long, SpellsNumber, EndsInsideBytes, IsNoLength}
use Rattle.avro_wire.specs.Reading.{bytes_at}
use Rattle.avro_wire.specs.ReadingLaws.{number_again, number_short, number_long, front_cases, left_behind, bytes_again}
use Rattle.avro_wire.proofs.Numbers.{number_found}

-- ---- what is read where the relation says what stands there

-- too few bytes behind their length are short
few_behind : (input : List ℕ) (place : ℕ) (bytes after : List ℕ) (value : ℤ) → drop place input ≡ bytes ++ after
    → SpellsNumber long bytes value → pos (length after) <ℤ value
    → bytes_at input place ≡ Err (Short place)
unfolding bytes_at
few_behind input place bytes after (pos size) parts spelled few =
    let short : nat_lt (length input - (place + length bytes)) size ≡ true = lt-ltb _ _ (omega (arith, ints, left_behind input place bytes after parts)) in
    rw (number_again long input place bytes after (pos size) parts spelled, short) refl
few_behind input place bytes after (negsuc size) parts spelled few = absurd (omega (arith, ints))

-- a negative length is too long
negative_length : (input : List ℕ) (place : ℕ) (bytes after : List ℕ) (value : ℤ) → drop place input ≡ bytes ++ after
    → SpellsNumber long bytes value → value <ℤ pos 0
    → bytes_at input place ≡ Err (TooLong place)
unfolding bytes_at
negative_length input place bytes after (pos size) parts spelled below = absurd (omega (arith, ints))
negative_length input place bytes after (negsuc size) parts spelled below = rw (number_again long input place bytes after (negsuc size) parts spelled) refl

-- an input that ends inside is short
pub bytes_short : (input : List ℕ) (place : ℕ) → EndsInsideBytes (drop place input) → bytes_at input place ≡ Err (Short place)
unfolding bytes_at
bytes_short input place ends =
    elim ends [
      | inl inside ↦ rw (number_short long input place inside) refl
      | inr front ↦ few_behind input place front.bytes front.after front.value front.parts front.spelled front.such
    ]

-- what is no length is too long
pub bytes_long : (input : List ℕ) (place : ℕ) → IsNoLength (drop place input) → bytes_at input place ≡ Err (TooLong place)
unfolding bytes_at
bytes_long input place is =
    elim is [
      | inl too_long ↦ rw (number_long long input place too_long) refl
      | inr front ↦ negative_length input place front.bytes front.after front.value front.parts front.spelled front.such
    ]

-- ---- what can stand there

-- a length at the front, with that many bytes behind it
record IsWhole (rest : List ℕ) : Type 0 where
  bytes : List ℕ
  after : List ℕ
  size : ℕ
  parts : rest ≡ bytes ++ after
  spelled : SpellsNumber long bytes (pos size)
  enough : size ≤ length after

-- of a number at the front
behind_cases : (rest bytes after : List ℕ) (value : ℤ) → rest ≡ bytes ++ after → SpellsNumber long bytes value
    → IsWhole rest ⊎ (EndsInsideBytes rest ⊎ IsNoLength rest)
behind_cases rest bytes after (negsuc size) parts spelled =
    inr (inr (inr (record { bytes = bytes; after = after; value = negsuc size; parts = parts; spelled = spelled; such = omega (arith, ints) })))
behind_cases rest bytes after (pos size) parts spelled =
    elim (cases_lt (length after) size) [
      | inl few ↦ inr (inl (inr (record { bytes = bytes; after = after; value = pos size; parts = parts; spelled = spelled; such = omega (arith, ints) })))
      | inr enough ↦ inl (record { bytes = bytes; after = after; size = size; parts = parts; spelled = spelled; enough = enough })
    ]

-- bytes behind their length, the end of the input inside them, or no length
bytes_cases : (rest : List ℕ) → IsWhole rest ⊎ (EndsInsideBytes rest ⊎ IsNoLength rest)
bytes_cases rest =
    elim (front_cases long rest) [
      | inl front ↦ behind_cases rest front.bytes front.after front.value front.parts front.spelled
      | inr (inl ends) ↦ inr (inl (inl ends))
      | inr (inr too_long) ↦ inr (inr (inl too_long))
    ]

-- ---- the clauses, of whatever is answered

-- the bytes before the answered start spell how many bytes are answered
pub bytes_found : (input : List ℕ) (place : ℕ) (r : Result (ℕ × ℕ) WireRefusal) → bytes_at input place ≡ r
    → IfOk r (λ taken. SpellsNumber long (slice_range input place taken.0) (pos (taken.1 - taken.0)))
bytes_found input place (Err e) read = tt
bytes_found input place (Ok taken) read =
    elim (bytes_cases (drop place input)) [
      | inl whole ↦
          let again = bytes_again input place whole.bytes whole.after whole.size whole.parts whole.spelled whole.enough in
          let start : taken.0 ≡ place + length whole.bytes = cc in
          let end : taken.1 ≡ place + length whole.bytes + whole.size = cc in
          let size : place + length whole.bytes + whole.size - (place + length whole.bytes) ≡ whole.size = omega arith in
          rw (end, start, size) (number_found long input place (Ok (pos whole.size, place + length whole.bytes)) (number_again long input place whole.bytes whole.after (pos whole.size) whole.parts whole.spelled))
      | inr (inl ends) ↦ let e = bytes_short input place ends in cc
      | inr (inr is) ↦ let e = bytes_long input place is in cc
    ]

-- short is answered where the input ends inside
pub bytes_short_iff : (input : List ℕ) (place : ℕ) (r : Result (ℕ × ℕ) WireRefusal) → bytes_at input place ≡ r
    → (r ≡ Err (Short place)) ↔ EndsInsideBytes (drop place input)
bytes_short_iff input place r read = (
  λ short. elim (bytes_cases (drop place input)) [
    | inl whole ↦ let e = bytes_again input place whole.bytes whole.after whole.size whole.parts whole.spelled whole.enough in cc
    | inr (inl ends) ↦ ends
    | inr (inr is) ↦ let e = bytes_long input place is in cc
  ],
  λ ends. sym read ∙ bytes_short input place ends,
)

-- too long is answered where no length stands
pub bytes_long_iff : (input : List ℕ) (place : ℕ) (r : Result (ℕ × ℕ) WireRefusal) → bytes_at input place ≡ r
    → (r ≡ Err (TooLong place)) ↔ IsNoLength (drop place input)
bytes_long_iff input place r read = (
  λ long. elim (bytes_cases (drop place input)) [
    | inl whole ↦ let e = bytes_again input place whole.bytes whole.after whole.size whole.parts whole.spelled whole.enough in cc
    | inr (inl ends) ↦ let e = bytes_short input place ends in cc
    | inr (inr is) ↦ is
  ],
  λ is. sym read ∙ bytes_long input place is,
)
