-- What the header of a container file reads as: magic bytes, and a map from text to bytes.
-- Avro 1.11, "Object Container Files"; "Maps" for the map's blocks.
use Rattle.std.specs.Prelude.{ℕ, zero, suc, ◌+◌, ◌-◌, ℤ, pos, negsuc, Bool, false, not, ◌==◌, ◌&&◌, List, [], ◌∷◌}
use Rattle.std.specs.Prelude.{◌++◌, length, take, Result, Ok, Err, Option, Some, None, nat_lt, slice_range, codes}
use Rattle.std.specs.Prelude.{if◌then◌else◌}
use Rattle.std.specs.List.{list_any}
use Rattle.std.specs.Str.{is_utf8, bytes_eq}
use Rattle.words.specs.Reading.{◌>>=◌, map_refusal, repeated}
use Rattle.avro_wire.specs.Number.{long}
use Rattle.avro_wire.specs.Reading.{number_at, bytes_at}
use Rattle.avro_container.specs.declared.refusal.ContainerRefusal.{ContainerRefusal}
use Rattle.avro_container.specs.declared.refusal.ContainerRefusal.TheVariants.{Magic, Header, Codec, Short}
use Rattle.avro_container.specs.Refusal.{header_refusal}

-- a key and what it is bound to
abbrev pub Pair : Type 0
Pair = List ℕ × List ℕ

-- some pair has the key
abbrev pub has_key : List Pair → List ℕ → Bool
has_key pairs key = list_any (λ (p : Pair). bytes_eq p.0 key) pairs

-- what the key is bound to
abbrev pub bound_to : List Pair → List ℕ → Option (List ℕ)
bound_to [] key = None
bound_to (p ∷ pairs) key = if bytes_eq p.0 key then Some p.1 else bound_to pairs key

-- `Obj` and the format's version
abbrev pub magic : List ℕ
magic = 79 ∷ 98 ∷ 106 ∷ 1 ∷ []

-- the names that the format binds
abbrev pub schema_key : List ℕ
schema_key = codes "avro.schema"

abbrev pub codec_key : List ℕ
codec_key = codes "avro.codec"

-- the most pairs that a header may have
abbrev pub most_pairs : ℕ
most_pairs = 16777216

-- the first four bytes, or the refusal of others: a front of them at the input's end is only cut short
unfoldable pub magic_at : List ℕ → Result ℕ ContainerRefusal
magic_at input =
    if bytes_eq (take 4 input) (take (length input) magic)
    then (if nat_lt (length input) 4 then Err (Short 0) else Ok 4)
    else Err Magic

-- the number is this natural one
abbrev pub is_natural : ℤ → ℕ → Bool
is_natural (pos m) n = m == n
is_natural (negsuc m) n = false

-- a number of the map
unfoldable pub map_number_at : List ℕ → ℕ → Result (ℤ × ℕ) ContainerRefusal
map_number_at input place = map_refusal header_refusal (number_at long input place)

-- the bytes of a key or a value
unfoldable pub item_at : List ℕ → ℕ → Result (ℕ × ℕ) ContainerRefusal
item_at input place = map_refusal header_refusal (bytes_at input place)

-- a key: text that no pair before it has
unfoldable pub key_at : List Pair → List ℕ → ℕ → Result (ℕ × ℕ) ContainerRefusal
key_at pairs input place = do
  key ← item_at input place
  if is_utf8 (slice_range input key.0 key.1) && not (has_key pairs (slice_range input key.0 key.1))
      then Ok key
      else Err (Header place)

-- a pair, after those before it
unfoldable pub pair_at : List Pair → List ℕ → ℕ → Result (List Pair × ℕ) ContainerRefusal
pair_at pairs input place = do
  key ← key_at pairs input place
  value ← item_at input key.1
  Ok (pairs ++ (slice_range input key.0 key.1, slice_range input value.0 value.1) ∷ [], value.1)

-- the pairs so far and a place, one pair on
abbrev pub next_pair : List ℕ → List Pair × ℕ → Result (List Pair × ℕ) ContainerRefusal
next_pair input (pairs, place) = pair_at pairs input place

-- so many pairs
unfoldable pub pairs_at : ℕ → List Pair → List ℕ → ℕ → Result (List Pair × ℕ) ContainerRefusal
pairs_at count pairs input place = repeated (next_pair input) count (pairs, place)

-- the pairs of a block whose count stood at the place; there may be no more than most_pairs in all
unfoldable pub counted_at : ℕ → ℕ → List Pair → List ℕ → ℕ → Result (List Pair × ℕ) ContainerRefusal
counted_at place count pairs input start =
    if nat_lt most_pairs (length pairs + count) then Err (Header place) else pairs_at count pairs input start

-- the pairs of a block that tells its size in bytes, which has to be true
unfoldable pub sized_at : ℕ → ℕ → List Pair → List ℕ → ℕ → Result (List Pair × ℕ) ContainerRefusal
sized_at place count pairs input start = if nat_lt most_pairs (length pairs + count) then Err (Header place) else (do
  size ← map_number_at input start
  block ← pairs_at count pairs input size.1
  if is_natural size.0 (block.1 - size.1) then Ok block else Err (Header start))

-- a block of the map, by its count: a negative one is followed by the size
unfoldable pub map_block_at : ℕ → List Pair → List ℕ → ℤ × ℕ → Result (List Pair × ℕ) ContainerRefusal
map_block_at place pairs input (pos count, start) = counted_at place count pairs input start
map_block_at place pairs input (negsuc count, start) = sized_at place (suc count) pairs input start

-- blocks up to the count 0; no map has more blocks than bytes, so as many are tried
unfoldable pub map_at : ℕ → List Pair → List ℕ → ℕ → Result (List Pair × ℕ) ContainerRefusal
map_at zero pairs input place = Ok (pairs, place)
map_at (suc tries) pairs input place = do
  count ← map_number_at input place
  if is_natural count.0 0 then Ok (pairs, count.1) else (do
    block ← map_block_at place pairs input count
    map_at tries block.0 input block.1)

-- no codec is named, or null
abbrev pub check_codec : Option (List ℕ) → Result (List ℕ) ContainerRefusal
check_codec None = Ok []
check_codec (Some name) = if bytes_eq name (codes "null") then Ok [] else Err (Codec name)

-- the header has a schema, and no codec but null
unfoldable pub checked : List Pair × ℕ → Result (List Pair × ℕ) ContainerRefusal
checked (pairs, place) =
    if has_key pairs schema_key
    then (check_codec (bound_to pairs codec_key) >>= λ _. Ok (pairs, place))
    else Err (Header place)

-- the next count bytes, whole: where they end
unfoldable pub part_at : ℕ → List ℕ → ℕ → Result ℕ ContainerRefusal
part_at count input place = if nat_lt (length input - place) count then Err (Short place) else Ok (place + count)

-- the pairs, and where the marker after them begins
unfoldable pub header_at : List ℕ → Result (List Pair × ℕ) ContainerRefusal
header_at input = do
  start ← magic_at input
  map ← map_at (length input) [] input start
  checked map
