-- What a walk keeps of the bytes that it lends blocks of.
use Rattle.std.specs.Prelude.{◌≡◌, ℕ, ◌≤◌, List, [], length, true, is_ok}
use Rattle.words.specs.Reading.{value_or}
use Rattle.avro_container.specs.Header.{Pair}
use Rattle.avro_container.specs.Block.{blocks_left}
use Rattle.avro_container.specs.Container.{Walked}

-- the walk that these fields stand for
abbrev pub walked_of : List ℕ → List Pair → List ℕ → ℕ → ℕ → ℕ → Walked
walked_of input meta sync first place lent = record {
  whole = record { meta = meta; sync = sync; blocks = value_or [] (blocks_left sync input 0 first) };
  left = value_or [] (blocks_left sync input lent place);
}

-- the blocks were checked, from the first one on and from the next one on
pub record IsFramed (input sync : List ℕ) (first place lent : ℕ) : Type 0 where
  pub all : is_ok (blocks_left sync input 0 first) ≡ true
  pub left : is_ok (blocks_left sync input lent place) ≡ true
  pub first_within : first ≤ length input
  pub within : place ≤ length input
  pub lent_before : lent ≤ place
