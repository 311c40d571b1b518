-- What is written: the file of a container, whose header's map is in one block.
-- Avro 1.11, "Object Container Files".
use Rattle.std.specs.Prelude.{◌≡◌, ℕ, ◌≤◌, pos, ◌≤ℤ◌, true, List, ◌++◌, length, All, IfSome, codes}
use Rattle.std.specs.List.{flat_map}
use Rattle.std.specs.Str.{IsUtf8}
use Rattle.avro_wire.specs.Number.{long, SpellsNumber}
use Rattle.avro_wire.specs.Writing.{number_text, bytes_text, list_text}
use Rattle.avro_container.specs.declared.container.Block.{Block}
use Rattle.avro_container.specs.declared.container.Container.{Container}
use Rattle.avro_container.specs.Header.{Pair, has_key, bound_to, magic, schema_key, codec_key, most_pairs}
use Rattle.avro_container.specs.Format.{HasDistinctKeys}

-- a key and what it is bound to
abbrev pub pair_text : Pair → List ℕ
pair_text pair = bytes_text pair.0 ++ bytes_text pair.1

-- a block: how many objects it has, how many bytes they are, the objects, the marker
abbrev pub block_text : List ℕ → Block → List ℕ
block_text sync block = number_text block.count ++ (bytes_text block.bytes ++ sync)

-- the file: magic bytes, the header's map, the marker, the blocks
unfoldable pub container_text : Container → List ℕ
container_text container =
    magic ++ (list_text pair_text container.meta
    ++ (container.sync ++ flat_map (block_text container.sync) container.blocks))

-- the key is text, as in a header
abbrev pub HasTextKey : Pair → Type 0
HasTextKey pair = IsUtf8 pair.0

-- the count is one that its text spells, a number of 64 bits
abbrev pub HasLongCount : Block → Type 0
HasLongCount block = SpellsNumber long (number_text block.count) block.count

-- a container that has a file: its header is one, and no count is below 0
pub record IsWritable (container : Container) : Type 0 where
  pub few : length container.meta ≤ most_pairs
  pub distinct : HasDistinctKeys container.meta
  pub schema : has_key container.meta schema_key ≡ true
  pub codec : IfSome (bound_to container.meta codec_key) (λ name. name ≡ codes "null")
  pub counts : All (λ block. pos 0 ≤ℤ block.count) container.blocks
