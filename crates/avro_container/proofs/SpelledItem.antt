-- Bytes behind their length, and so many bytes, by the relation: what is read is spelled so, and what is spelled so is read.
use Rattle.std.proofs.Common.{◌≡◌, ℕ, ◌+◌, ◌-◌, ◌≤◌, ℤ, pos, negsuc, List, ◌++◌, length, drop, slice_range, Ok}
use Rattle.std.proofs.Common.{refl, sym, ap, subst, ◌∙◌, append_assoc, arith}
use Rattle.std.proofs.lemmas.Bool.{ltb-false, le-ltb}
use Rattle.std.proofs.lemmas.List.{length-append}
use Rattle.words.specs.Grammar.{Joined}
use Rattle.avro_wire.specs.Number.{long, SpellsNumber}
use Rattle.avro_wire.specs.Blocks.{SpellsBytes}
use Rattle.avro_wire.specs.Reading.{number_at, range_behind, bytes_at}
use Rattle.avro_wire.specs.ReadingLaws.{bytes_again}
use Rattle.avro_container.specs.Refusal.{header_refusal}
use Rattle.avro_container.specs.Header.{item_at, part_at}
use Rattle.words.specs.Parts.{Took, behind_is, range_is, enough_are, enough_stand, took_then, took_as}
use Rattle.words.specs.Steps.{bind_then, map_ok, test_failed, ok_is}
use Rattle.avro_wire.specs.TookLaws.{number_took}

-- the bytes that stand at a place, whatever follows
pub slice_is : (input : List ℕ) (place : ℕ) (bytes rest : List ℕ) → drop place input ≡ bytes ++ rest
    → slice_range input place (place + length bytes) ≡ bytes
slice_is input place bytes rest parts =
    range_is input place (place + length bytes) bytes (record { rest = rest; parts = parts; ends = refl })

-- ---- a length and that many bytes

-- so many bytes that are there
pub range_took : (input : List ℕ) (place count : ℕ) → count ≤ length input - place → Took input place (place + count)
    (λ bytes. (bytes ≡ slice_range input place (place + count)) × (length bytes ≡ count))
range_took input place count enough = record {
  bytes = slice_range input place (place + count);
  stand = enough_stand input place count enough;
  such = (refl, enough_are input place count enough);
}

-- so many bytes behind their number
bytes_are : (value all : List ℕ) (n : ℕ) → Joined (λ front. SpellsNumber long front (pos n))
    (λ bytes. (bytes ≡ value) × (length bytes ≡ n)) all → SpellsBytes value all
bytes_are value all n joined =
    let size : n ≡ length value = sym joined.second.1 ∙ ap length joined.second.0 in
    record { front = joined.front; rest = joined.rest; parts = joined.parts; first = subst (λ (k : ℕ). SpellsNumber long joined.front (pos k)) size joined.first; second = joined.second.0 }

-- what lies behind a length
behind_took : (input : List ℕ) (place : ℕ) (value : ℤ) (start : ℕ) (range : ℕ × ℕ)
    → Took input place start (λ bytes. SpellsNumber long bytes value)
    → range_behind place input (value, start) ≡ Ok range
    → Took input place range.1 (SpellsBytes (slice_range input range.0 range.1))
behind_took input place (negsuc n) start range first read = absurd cc
behind_took input place (pos n) start range first read =
    let passed = test_failed _ _ _ range read in
    let bytes = range_took input start n (ltb-false _ _ passed.0) in
    let whole = took_as input place (start + n) (λ all. bytes_are (slice_range input start (start + n)) all n) (took_then input place start (start + n) first bytes) in
    subst (λ (r : ℕ × ℕ). Took input place r.1 (SpellsBytes (slice_range input r.0 r.1))) (ok_is (start, start + n) range passed.1) whole

-- what is read is spelled so
pub item_took : (input : List ℕ) (place : ℕ) (range : ℕ × ℕ) → item_at input place ≡ Ok range
    → Took input place range.1 (SpellsBytes (slice_range input range.0 range.1))
unfolding item_at bytes_at
item_took input place range read =
    bind_then (number_at long input place) (range_behind place input) range (map_ok header_refusal (bytes_at input place) range read)
    (λ number first second. behind_took input place number.0 number.1 range (number_took long input place number first) second)

-- what an item that is spelled reads as
pub record ItemAgain (input : List ℕ) (place : ℕ) (bytes value : List ℕ) : Type 0 where
  pub start : ℕ
  pub read : item_at input place ≡ Ok (start, place + length bytes)
  pub value_is : slice_range input start (place + length bytes) ≡ value

-- what is spelled so is read, whatever follows
pub item_again : (input : List ℕ) (place : ℕ) (bytes rest value : List ℕ) → drop place input ≡ bytes ++ rest
    → SpellsBytes value bytes → ItemAgain input place bytes value
unfolding item_at
item_again input place bytes rest value parts spelled =
    let whole : drop place input ≡ spelled.front ++ (value ++ rest) = parts ∙ ap (λ (x : List ℕ). x ++ rest) (spelled.parts ∙ ap (λ (x : List ℕ). spelled.front ++ x) spelled.second) ∙ append_assoc spelled.front value rest in
    let again = bytes_again input place spelled.front (value ++ rest) (length value) whole spelled.first (omega (arith, length-append value rest)) in
    let size : place + length bytes ≡ place + length spelled.front + length value = omega (arith, ap length spelled.parts, ap length spelled.second, length-append spelled.front spelled.rest) in
    record {
      start = place + length spelled.front;
      read = rw (again, ← size) refl;
      value_is = rw size (slice_is input (place + length spelled.front) value rest (behind_is input place spelled.front (value ++ rest) whole));
    }

-- ---- so many bytes

-- so many bytes that were read are there
pub part_took : (count : ℕ) (input : List ℕ) (place end : ℕ) → part_at count input place ≡ Ok end → (end ≡ place + count) × (count ≤ length input - place)
unfolding part_at
part_took count input place end read =
    let passed = test_failed _ _ _ end read in
    (cc, ltb-false _ _ passed.0)

-- so many bytes that are there are read
pub part_again : (count : ℕ) (input : List ℕ) (place : ℕ) → count ≤ length input - place → part_at count input place ≡ Ok (place + count)
unfolding part_at
part_again count input place enough = rw (le-ltb _ _ enough) refl
