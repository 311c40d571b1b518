-- A count or a size of a block by the relation: what is read is spelled so, and what is spelled so is read.
use Rattle.std.proofs.Common.{◌≡◌, ℕ, ◌+◌, ℤ, pos, negsuc, List, ◌++◌, length, drop, slice_range, Ok, refl}
use Rattle.words.specs.Reading.{map_refusal}
use Rattle.avro_wire.specs.Number.{long, SpellsNumber}
use Rattle.avro_wire.specs.Reading.{number_at}
use Rattle.avro_wire.specs.ReadingLaws.{number_again}
use Rattle.avro_container.specs.Refusal.{block_refusal}
use Rattle.avro_container.specs.Header.{part_at}
use Rattle.avro_container.specs.Block.{natural, count_at}
use Rattle.words.specs.Parts.{Took}
use Rattle.words.specs.Steps.{bind_then, map_ok}
use Rattle.avro_wire.specs.TookLaws.{number_took}
use Rattle.avro_container.proofs.SpelledItem.{range_took, part_took}

-- a number that is not below 0
natural_is : (block : ℕ) (z : ℤ) (at : ℕ) (taken : ℕ × ℕ) → natural block (z, at) ≡ Ok taken → (z ≡ pos taken.0) × (at ≡ taken.1)
natural_is block (pos m) at taken read = (cc, cc)
natural_is block (negsuc m) at taken read = absurd cc

-- what is read is spelled so
pub count_took : (block : ℕ) (input : List ℕ) (place : ℕ) (taken : ℕ × ℕ) → count_at block input place ≡ Ok taken
    → Took input place taken.1 (λ bytes. SpellsNumber long bytes (pos taken.0))
unfolding count_at
count_took block input place taken read =
    bind_then (map_refusal (block_refusal block) (number_at long input place)) (natural block) taken read (λ number first second.
    let is = natural_is block number.0 number.1 taken second in
    rw (← is.0, ← is.1) (number_took long input place number (map_ok (block_refusal block) (number_at long input place) number first)))

-- what is spelled so is read, whatever follows
pub count_again : (block : ℕ) (input : List ℕ) (place : ℕ) (bytes rest : List ℕ) (n : ℕ)
    → drop place input ≡ bytes ++ rest → SpellsNumber long bytes (pos n)
    → count_at block input place ≡ Ok (n, place + length bytes)
unfolding count_at
count_again block input place bytes rest n parts spelled = rw (number_again long input place bytes rest (pos n) parts spelled) refl

-- so many bytes of a range that was read
pub part_is : (input : List ℕ) (place end count : ℕ) → part_at count input place ≡ Ok end
    → Took input place end (λ bytes. (bytes ≡ slice_range input place end) × (length bytes ≡ count))
part_is input place end count read =
    let part = part_took count input place end read in
    rw (part.0) (range_took input place count part.1)
