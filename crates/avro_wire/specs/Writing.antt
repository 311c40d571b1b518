-- What the puts put: the fewest bytes that spell a number, and bytes after their length.
-- Avro 1.11, "Binary encoding", "Primitive types": int, long and bytes.
use Rattle.std.specs.List.{flat_map}
use Rattle.std.specs.Prelude.{ℕ, zero, suc, ◌+◌, ◌*◌, ◌/◌, ◌%◌, ℤ, pos, negsuc, List, [], ◌∷◌, ◌++◌, length, nat_lt}
use Rattle.std.specs.Prelude.{if◌then◌else◌}

-- 0, -1, 1, -2, 2, .. stand as 0, 1, 2, 3, 4, ..
abbrev pub zigzag : ℤ → ℕ
zigzag (pos n) = 2 * n
zigzag (negsuc n) = 2 * n + 1

-- the groups of a value that is no more than this count
unfoldable pub groups_within : ℕ → ℕ → List ℕ
groups_within zero n = n ∷ []
groups_within (suc count) n = if nat_lt n 128 then n ∷ [] else (n % 128 + 128) ∷ groups_within count (n / 128)

-- the groups of a value, low group first, each byte but the last with the high bit set, and no group more than it takes
unfoldable pub groups_of : ℕ → List ℕ
groups_of n = groups_within n n

-- a number
unfoldable pub number_text : ℤ → List ℕ
number_text value = groups_of (zigzag value)

-- how many the bytes are
abbrev pub size_text : List ℕ → List ℕ
size_text value = number_text (pos (length value))

-- bytes: how many they are, and then themselves
unfoldable pub bytes_text : List ℕ → List ℕ
bytes_text value = size_text value ++ value

-- items in one block, where there are some, and then the count 0. Avro 1.11, "Arrays", "Maps"
abbrev pub list_text : {A : Type 0} → (A → List ℕ) → List A → List ℕ
list_text item_text [] = number_text (pos 0)
list_text item_text (item ∷ items) =
    number_text (pos (length (item ∷ items))) ++ (flat_map item_text (item ∷ items) ++ number_text (pos 0))
