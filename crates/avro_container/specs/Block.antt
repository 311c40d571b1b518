-- What the blocks of a container file read as: a count, a size, that many bytes, and the header's marker.
-- Avro 1.11, "Object Container Files".
use Rattle.std.specs.Prelude.{ℕ, zero, suc, ◌+◌, ◌-◌, ℤ, pos, negsuc, List, [], ◌∷◌, length, Result, Ok, Err, nat_le}
use Rattle.std.specs.Prelude.{slice_range, if◌then◌else◌}
use Rattle.std.specs.Str.{bytes_eq}
use Rattle.words.specs.Reading.{◌>>=◌, map_refusal}
use Rattle.avro_wire.specs.Number.{long}
use Rattle.avro_wire.specs.Reading.{number_at}
use Rattle.avro_container.specs.declared.block.Frame.{Frame}
use Rattle.avro_container.specs.declared.container.Block.{Block}
use Rattle.avro_container.specs.declared.refusal.ContainerRefusal.{ContainerRefusal}
use Rattle.avro_container.specs.declared.refusal.ContainerRefusal.TheVariants.{Form, Sync}
use Rattle.avro_container.specs.Refusal.{block_refusal}
use Rattle.avro_container.specs.Header.{part_at}

-- a number that is not below 0
abbrev pub natural : ℕ → ℤ × ℕ → Result (ℕ × ℕ) ContainerRefusal
natural block (pos n, after) = Ok (n, after)
natural block (negsuc n, after) = Err (Form block)

-- the count or the size of a block
unfoldable pub count_at : ℕ → List ℕ → ℕ → Result (ℕ × ℕ) ContainerRefusal
count_at block input place = map_refusal (block_refusal block) (number_at long input place) >>= natural block

-- a block, and where the next one begins
unfoldable pub frame_at : List ℕ → ℕ → List ℕ → ℕ → Result (Frame × ℕ) ContainerRefusal
frame_at sync block input place = do
  count ← count_at block input place
  size ← count_at block input count.1
  end ← part_at size.0 input size.1
  after ← part_at 16 input end
  if bytes_eq (slice_range input end after) sync
      then Ok (record { count = count.0; start = size.1; end = end }, after)
      else Err (Sync block)

-- the block that lies there
abbrev pub block_of : List ℕ → Frame → Block
block_of input frame = record { count = pos frame.count; bytes = slice_range input frame.start frame.end }

-- blocks up to the input's end; no file has more blocks than bytes, so as many are tried
unfoldable pub blocks_at : ℕ → List ℕ → ℕ → List ℕ → ℕ → Result (List Block) ContainerRefusal
blocks_at zero sync block input place = Ok []
blocks_at (suc tries) sync block input place = if nat_le (length input) place then Ok [] else (do
  frame ← frame_at sync block input place
  blocks ← blocks_at tries sync (block + 1) input frame.1
  Ok (block_of input frame.0 ∷ blocks))

-- the blocks after those that were returned, of a framing that was checked
abbrev pub blocks_left : List ℕ → List ℕ → ℕ → ℕ → Result (List Block) ContainerRefusal
blocks_left sync input lent place = blocks_at (length input - lent) sync (lent + 1) input place
