-- What the bytes of a number mean: groups of seven bits, low group first, and zig-zag.
-- Avro 1.11, "Binary encoding", "Primitive types": int and long.
use Rattle.std.specs.Prelude.{◌≡◌, ℕ, ◌+◌, ◌-◌, ◌*◌, ◌/◌, ◌%◌, ◌^◌, ◌<◌, ◌≤◌, ℤ, pos, negsuc, ◌<ℤ◌, ◌⊎◌, List, []}
use Rattle.std.specs.Prelude.{◌∷◌, ◌++◌, length, take, All, if◌then◌else◌, ◌==◌}

-- every byte but the last has the high bit set, and the last one has not
abbrev pub IsGroups : List ℕ → Type 0
IsGroups [] = ⊥
IsGroups (b ∷ []) = b < 128
IsGroups (b ∷ c ∷ bytes) = (128 ≤ b) × IsGroups (c ∷ bytes)

-- the low seven bits of each byte, the first byte the lowest
abbrev pub groups_value : List ℕ → ℕ
groups_value [] = 0
groups_value (b ∷ bytes) = b % 128 + 128 * groups_value bytes

-- even numbers stand for 0, 1, 2, .., odd ones for -1, -2, ..
abbrev pub unzigzag : ℕ → ℤ
unzigzag n = if n % 2 == 0 then pos (n / 2) else negsuc (n / 2)

-- the most bytes that a number may take, and the largest value of its groups
pub record Bounds : Type 0 where
  pub bytes : ℕ
  pub largest : ℕ

-- a number of 64 bits
abbrev pub long : Bounds
long = record { bytes = 10; largest = 2 ^ 64 - 1 }

-- a number of 32 bits
abbrev pub int : Bounds
int = record { bytes = 5; largest = 2 ^ 32 - 1 }

-- the bytes spell the number, in one of the spellings that are read
pub record SpellsNumber (bounds : Bounds) (bytes : List ℕ) (value : ℤ) : Type 0 where
  pub groups : IsGroups bytes
  pub short : length bytes ≤ bounds.bytes
  pub fits : groups_value bytes ≤ bounds.largest
  pub value_is : value ≡ unzigzag (groups_value bytes)

-- the input ends before the number's last byte: all that is left has the high bit, and more would be read
pub record EndsInside (bounds : Bounds) (rest : List ℕ) : Type 0 where
  pub few : length rest < bounds.bytes
  pub high : All (λ b. 128 ≤ b) rest

-- as many bytes as a number may take all have the high bit
pub record IsEndless (bounds : Bounds) (rest : List ℕ) : Type 0 where
  pub many : bounds.bytes ≤ length rest
  pub high : All (λ b. 128 ≤ b) (take bounds.bytes rest)

-- the groups at the front are too large
pub record IsTooLarge (bounds : Bounds) (rest : List ℕ) : Type 0 where
  pub bytes : List ℕ
  pub after : List ℕ
  pub parts : rest ≡ bytes ++ after
  pub groups : IsGroups bytes
  pub short : length bytes ≤ bounds.bytes
  pub large : bounds.largest < groups_value bytes

-- the bytes at the front spell a number with this property of it and of what follows
pub record BeginsWith (bounds : Bounds) (rest : List ℕ) (P : ℤ → List ℕ → Type 0) : Type 0 where
  pub bytes : List ℕ
  pub after : List ℕ
  pub value : ℤ
  pub parts : rest ≡ bytes ++ after
  pub spelled : SpellsNumber bounds bytes value
  pub such : P value after

-- nothing more is said of the number and of what follows
abbrev pub Anything : ℤ → List ℕ → Type 0
Anything value after = Unit {0}

-- no number that may stand here does, whatever comes after the rest
abbrev pub IsTooLong : Bounds → List ℕ → Type 0
IsTooLong bounds rest = IsEndless bounds rest ⊎ IsTooLarge bounds rest

-- the input ends before the last byte of a length, or of the bytes that it promises
abbrev pub EndsInsideBytes : List ℕ → Type 0
EndsInsideBytes rest = EndsInside long rest ⊎ BeginsWith long rest (λ value after. pos (length after) <ℤ value)

-- what stands here is too long to be a length, or is negative
abbrev pub IsNoLength : List ℕ → Type 0
IsNoLength rest = IsTooLong long rest ⊎ BeginsWith long rest (λ value after. value <ℤ pos 0)
