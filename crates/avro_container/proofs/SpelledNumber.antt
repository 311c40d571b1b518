-- A number by the relation: what is read is spelled so, and what is spelled so is read.
use Rattle.std.proofs.Common.{◌≡◌, ℕ, ◌+◌, ◌<◌, ℤ, List, [], ◌∷◌, ◌++◌, length, drop, Ok, refl, arith}
use Rattle.avro_wire.specs.Number.{long, SpellsNumber}
use Rattle.avro_wire.specs.Reading.{number_at}
use Rattle.avro_wire.specs.ReadingLaws.{number_again}
use Rattle.avro_wire.specs.TookLaws.{number_took}
use Rattle.avro_container.specs.Refusal.{header_refusal}
use Rattle.avro_container.specs.Header.{map_number_at}
use Rattle.words.specs.Parts.{Took}
use Rattle.words.specs.Steps.{map_ok}

-- a number takes a byte at least
pub number_some : (bytes : List ℕ) (value : ℤ) → SpellsNumber long bytes value → 0 < length bytes
number_some [] value spelled = absurd spelled.groups
number_some (b ∷ bytes) value spelled = omega arith

-- a number of the map that is read is spelled so
pub map_number_took : (input : List ℕ) (place : ℕ) (taken : ℤ × ℕ) → map_number_at input place ≡ Ok taken
    → Took input place taken.1 (λ bytes. SpellsNumber long bytes taken.0)
unfolding map_number_at
map_number_took input place taken read = number_took long input place taken (map_ok header_refusal (number_at long input place) taken read)

-- a number that is spelled is read in the map, whatever follows
pub map_number_again : (input : List ℕ) (place : ℕ) (bytes rest : List ℕ) (value : ℤ)
    → drop place input ≡ bytes ++ rest → SpellsNumber long bytes value
    → map_number_at input place ≡ Ok (value, place + length bytes)
unfolding map_number_at
map_number_again input place bytes rest value parts spelled = rw (number_again long input place bytes rest value parts spelled) refl
