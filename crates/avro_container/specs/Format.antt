-- The format itself: which bytes are the object container file of which container.
-- Avro 1.11, "Object Container Files". specs/Blocks.antt of avro_wire says how a map is put into blocks.
use Rattle.std.specs.Prelude.{◌≡◌, ℕ, ◌≤◌, pos, true, false, List, [], ◌∷◌, ◌++◌, length, All, IfSome, codes}
use Rattle.std.specs.Str.{IsUtf8}
use Rattle.words.specs.Grammar.{Joined}
use Rattle.avro_wire.specs.Number.{long, SpellsNumber}
use Rattle.avro_wire.specs.Blocks.{SpellsBytes, SpellsItems, SpellsList}
use Rattle.avro_container.specs.declared.container.Block.{Block}
use Rattle.avro_container.specs.declared.container.Container.{Container}
use Rattle.avro_container.specs.Header.{Pair, has_key, bound_to, magic, schema_key, codec_key, most_pairs}

-- a key and what it is bound to
abbrev pub SpellsPair : Pair → List ℕ → Type 0
SpellsPair pair bytes = Joined (SpellsBytes pair.0) (SpellsBytes pair.1) bytes

-- the pairs of a map, in whatever blocks they stand
abbrev pub SpellsMap : List Pair → List ℕ → Type 0
SpellsMap pairs bytes = SpellsList SpellsPair pairs bytes

-- no key is a duplicate
abbrev pub HasDistinctKeys : List Pair → Type 0
HasDistinctKeys [] = Unit {0}
HasDistinctKeys (pair ∷ pairs) = (has_key pairs pair.0 ≡ false) × HasDistinctKeys pairs

-- what the header of a container file binds
pub record IsHeader (pairs : List Pair) : Type 0 where
  pub few : length pairs ≤ most_pairs
  pub texts : All (λ pair. IsUtf8 pair.0) pairs
  pub distinct : HasDistinctKeys pairs
  pub schema : has_key pairs schema_key ≡ true
  pub codec : IfSome (bound_to pairs codec_key) (λ name. name ≡ codes "null")

-- one block: its count, the size of its objects in bytes, the objects, the marker
pub record SpellsBlock (sync : List ℕ) (block : Block) (bytes : List ℕ) : Type 0 where
  pub count : List ℕ
  pub size : List ℕ
  pub many : ℕ
  pub counted : block.count ≡ pos many
  pub counts : SpellsNumber long count (pos many)
  pub sizes : SpellsNumber long size (pos (length block.bytes))
  pub whole : bytes ≡ count ++ (size ++ (block.bytes ++ sync))

-- blocks, one after the other
abbrev pub SpellsBlocks : List ℕ → List Block → List ℕ → Type 0
SpellsBlocks sync blocks bytes = SpellsItems (SpellsBlock sync) blocks bytes

-- the bytes are the file of the container, with no byte left
pub record IsContainer (bytes : List ℕ) (container : Container) : Type 0 where
  pub map : List ℕ
  pub blocks : List ℕ
  pub whole : bytes ≡ magic ++ (map ++ (container.sync ++ blocks))
  pub header : IsHeader container.meta
  pub maps : SpellsMap container.meta map
  pub marker : length container.sync ≡ 16
  pub spelled : SpellsBlocks container.sync container.blocks blocks
