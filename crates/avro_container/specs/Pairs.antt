-- The pairs of a header, kept as the places at which they begin in the input.
use Rattle.std.specs.Prelude.{◌≡◌, ℕ, ◌<◌, ◌^◌, Bool, List, [], ◌∷◌, ◌++◌, length, map, Result, Ok, Err, nat_le}
use Rattle.std.specs.Prelude.{slice_range, if◌then◌else◌}
use Rattle.std.specs.Str.{is_utf8}
use Rattle.words.specs.Reading.{value_or}
use Rattle.avro_container.specs.declared.refusal.ContainerRefusal.{ContainerRefusal}
use Rattle.avro_container.specs.declared.refusal.ContainerRefusal.TheVariants.{Header}
use Rattle.avro_container.specs.Header.{Pair, has_key, item_at}

-- where a key or a value lies whose length begins at the place; nowhere if none does
unfoldable pub item_there : List ℕ → ℕ → ℕ × ℕ
item_there input place = if nat_le place (length input) then value_or (0, 0) (item_at input place) else (0, 0)

-- the bytes if they are text
abbrev pub text_or_none : List ℕ → List ℕ
text_or_none bytes = if is_utf8 bytes then bytes else []

-- the bytes that lie there
abbrev pub bytes_in : List ℕ → ℕ × ℕ → List ℕ
bytes_in input there = slice_range input there.0 there.1

-- the pair whose key lies there: its value lies behind it
unfoldable pub pair_behind : List ℕ → ℕ × ℕ → Pair
pair_behind input key = (text_or_none (bytes_in input key), bytes_in input (item_there input key.1))

-- the pair that begins at the place
abbrev pub pair_there : List ℕ → ℕ → Pair
pair_there input place = pair_behind input (item_there input place)

-- the pairs that begin at the places
abbrev pub pairs_there : List ℕ → List ℕ → List Pair
pairs_there input places = map (pair_there input) places

-- the pair behind those before it, if none of them has its key; it began at the place, and ends at the other one
abbrev pub with_pair : List Pair → Pair → ℕ → ℕ → Result (List Pair × ℕ) ContainerRefusal
with_pair pairs pair place after =
    if has_key pairs pair.0 then Err (Header place) else Ok (pairs ++ pair ∷ [], after)

-- an input, and pairs that stand in it
pub record Found : Type 0 where
  pub input : List ℕ
  pub pairs : List Pair

-- a place of the input has 32 bits, and a set has the keys of the pairs and no other
pub record IsKnown (input : List ℕ) (pairs : List Pair) (is_in : List ℕ → Bool) : Type 0 where
  pub short : length input < 2 ^ 32
  pub known : (key : List ℕ) → is_in key ≡ has_key pairs key
