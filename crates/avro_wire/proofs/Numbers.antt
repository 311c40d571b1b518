-- Numbers by the relation: the clauses of the takes.
use Rattle.std.proofs.Common.{◌≡◌, ℕ, ◌+◌, ◌-◌, ℤ, List, ◌++◌, ◌↔◌, false, length, take, drop, slice_range, Result}
use Rattle.std.proofs.Common.{Ok, Err, IfOk, inl, inr, refl, sym, ap, ◌∙◌, arith}
use Rattle.std.specs.List.{prefix_len}
use Rattle.std.proofs.lemmas.List.{take_at}
use Rattle.words.specs.Reading.{Gives}
use Rattle.avro_wire.specs.declared.refusal.WireRefusal.{WireRefusal}
use Rattle.avro_wire.specs.declared.refusal.WireRefusal.TheVariants.{Short, TooLong}
use Rattle.avro_wire.specs.Number.{Bounds, groups_value, unzigzag, SpellsNumber, EndsInside, IsTooLong}
use Rattle.avro_wire.specs.Reading.{has_high_bit, number_at}
use Rattle.avro_wire.specs.GroupsLaws.{groups_high}
use Rattle.avro_wire.specs.ReadingLaws.{number_again, number_short, number_long, front_cases}

-- where memory is no matter, what a call answers is what is read
pub answers : {X : Type 0} (r read : Result X WireRefusal) → Gives (λ _. false) (λ x. x) r read → read ≡ r
answers (Ok x) read gives = gives
answers (Err e) read gives = gives

-- ---- the clauses, of whatever is answered

-- a number that is answered is spelled by the bytes before the answered place
pub number_found : (bounds : Bounds) (input : List ℕ) (place : ℕ) (r : Result (ℤ × ℕ) WireRefusal)
    → number_at bounds input place ≡ r
    → IfOk r (λ taken. SpellsNumber bounds (slice_range input place taken.1) taken.0)
number_found bounds input place (Err e) read = tt
number_found bounds input place (Ok taken) read =
    elim (front_cases bounds (drop place input)) [
      | inl front ↦
          let again = number_again bounds input place front.bytes front.after front.value front.parts front.spelled in
          let value : taken.0 ≡ front.value = cc in
          let after : taken.1 ≡ place + length front.bytes = cc in
          let size : place + length front.bytes - place ≡ length front.bytes = omega arith in
          rw (value, after, size, front.parts, take_at front.bytes front.after (length front.bytes) refl) front.spelled
      | inr (inl ends) ↦ let e = number_short bounds input place ends in cc
      | inr (inr long) ↦ let e = number_long bounds input place long in cc
    ]

-- short is answered where the input ends inside a number
pub short_iff : (bounds : Bounds) (input : List ℕ) (place : ℕ) (r : Result (ℤ × ℕ) WireRefusal)
    → number_at bounds input place ≡ r → (r ≡ Err (Short place)) ↔ EndsInside bounds (drop place input)
short_iff bounds input place r read = (
  λ short. elim (front_cases bounds (drop place input)) [
    | inl front ↦ let e = number_again bounds input place front.bytes front.after front.value front.parts front.spelled in cc
    | inr (inl ends) ↦ ends
    | inr (inr long) ↦ let e = number_long bounds input place long in cc
  ],
  λ ends. sym read ∙ number_short bounds input place ends,
)

-- too long is answered where what stands there is
pub too_long_iff : (bounds : Bounds) (input : List ℕ) (place : ℕ) (r : Result (ℤ × ℕ) WireRefusal)
    → number_at bounds input place ≡ r → (r ≡ Err (TooLong place)) ↔ IsTooLong bounds (drop place input)
too_long_iff bounds input place r read = (
  λ long. elim (front_cases bounds (drop place input)) [
    | inl front ↦ let e = number_again bounds input place front.bytes front.after front.value front.parts front.spelled in cc
    | inr (inl ends) ↦ let e = number_short bounds input place ends in cc
    | inr (inr is) ↦ is
  ],
  λ is. sym read ∙ number_long bounds input place is,
)

-- two spellings at the front of one list are one
pub spellings_agree : (bounds : Bounds) (a b x y : List ℕ) (m n : ℤ) → SpellsNumber bounds a m → SpellsNumber bounds b n → a ++ x ≡ b ++ y → (a ≡ b) × (m ≡ n)
spellings_agree bounds a b x y m n first second same =
    let one = groups_high a x first.groups in
    let other = groups_high b y second.groups in
    let counts : prefix_len has_high_bit (a ++ x) ≡ prefix_len has_high_bit (b ++ y) = ap (prefix_len has_high_bit) same in
    let sizes : length a ≡ length b = omega arith in
    let bytes : a ≡ b = sym (take_at a x (length b) sizes) ∙ ap (take (length b)) same ∙ take_at b y (length b) refl in
    (bytes, first.value_is ∙ ap (λ bytes. unzigzag (groups_value bytes)) bytes ∙ sym second.value_is)
