-- What is read of a number, and of a block that tells its size, is encoded so.
use Rattle.std.proofs.Common.{◌≡◌, ℕ, suc, ◌+◌, ◌-◌, ℤ, pos, negsuc, List, ◌++◌, length, drop, Ok, inl, inr, ap}
use Rattle.std.proofs.Common.{subst, ◌∙◌, arith}
use Rattle.words.specs.Grammar.{Joined}
use Rattle.words.specs.Parts.{Took}
use Rattle.avro_wire.specs.Number.{Bounds, long, SpellsNumber}
use Rattle.avro_wire.specs.Reading.{number_at}
use Rattle.avro_wire.specs.ReadingLaws.{front_cases, number_again, number_short, number_long}
use Rattle.avro_wire.specs.Blocks.{SpellsItems, IsSized}

-- a number that is read is encoded so
pub number_took : (bounds : Bounds) (input : List ℕ) (place : ℕ) (taken : ℤ × ℕ)
    → number_at bounds input place ≡ Ok taken
    → Took input place taken.1 (λ bytes. SpellsNumber bounds bytes taken.0)
number_took bounds input place taken read =
    elim (front_cases bounds (drop place input)) [
      | inl front ↦
          let again = number_again bounds input place front.bytes front.after front.value front.parts front.spelled in
          let value : taken.0 ≡ front.value = cc in
          let after : taken.1 ≡ place + length front.bytes = cc in
          record {
            bytes = front.bytes;
            stand = record { rest = front.after; parts = front.parts; ends = after };
            such = rw value front.spelled;
          }
      | inr (inl inside) ↦ let e = number_short bounds input place inside in absurd (cc)
      | inr (inr too_long) ↦ let e = number_long bounds input place too_long in absurd (cc)
    ]

-- a negative count, the size of the items, and the items between two places are a block that tells its size
pub sized_is : {A : Type 0} (S : A → List ℕ → Type 0) (n : ℕ) (items : List A) (first after : ℕ) (size : ℤ)
    (bytes : List ℕ) → length items ≡ suc n → size ≡ pos (after - first)
    → Joined (λ front. SpellsNumber long front (negsuc n))
    (Joined (λ front. SpellsNumber long front size) (λ text. (after ≡ first + length text) × SpellsItems S items text))
    bytes → IsSized S items bytes
sized_is S n items first after size bytes many true_size joined =
    let inner = joined.second in
    let same : after - first ≡ length inner.rest = omega (arith, inner.second.0) in
    record {
      count = joined.front;
      size = inner.front;
      spelled = inner.rest;
      whole = joined.parts ∙ ap (λ (x : List ℕ). joined.front ++ x) inner.parts;
      less = n;
      counts = joined.first;
      many = omega arith;
      sizes = subst (SpellsNumber long inner.front) (true_size ∙ ap (λ (k : ℕ). pos k) same) inner.first;
      spells = inner.second.1;
    }
