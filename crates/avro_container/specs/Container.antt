-- What the bytes of an object container file read as. Avro 1.11, "Object Container Files".
use Rattle.std.specs.Prelude.{ℕ, List, length, Result, Ok, Err, nat_lt, slice_range, if◌then◌else◌}
use Rattle.words.specs.Reading.{◌>>=◌}
use Rattle.avro_container.specs.declared.container.Block.{Block}
use Rattle.avro_container.specs.declared.container.Container.{Container}
use Rattle.avro_container.specs.declared.refusal.ContainerRefusal.{ContainerRefusal}
use Rattle.avro_container.specs.declared.refusal.ContainerRefusal.TheVariants.{Limit}
use Rattle.avro_container.specs.Header.{header_at, part_at}
use Rattle.avro_container.specs.Block.{blocks_at}

-- the most bytes that a file may have: 64 binary megabytes
abbrev pub most_bytes : ℕ
most_bytes = 67108864

-- the container of the bytes, or the first refusal in their order
unfoldable pub container_at : List ℕ → Result Container ContainerRefusal
container_at input = if nat_lt most_bytes (length input) then Err (Limit (length input)) else (do
  header ← header_at input
  first ← part_at 16 input header.1
  blocks ← blocks_at (length input) (slice_range input header.1 first) 1 input first
  Ok (record { meta = header.0; sync = slice_range input header.1 first; blocks = blocks }))

-- a container, and those of its blocks that were not returned yet
pub record Walked : Type 0 where
  pub whole : Container
  pub left : List Block
