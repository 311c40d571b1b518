-- Bytes after their length, and items in blocks, as arrays, maps and strings have them.
-- Avro 1.11, "Binary encoding": "Primitive types", "Arrays", "Maps".
use Rattle.std.specs.Prelude.{◌≡◌, ℕ, ◌+◌, ◌<◌, ◌⊎◌, pos, negsuc, List, [], ◌∷◌, ◌++◌, length}
use Rattle.std.specs.List.{flat_map}
use Rattle.words.specs.Grammar.{Joined}
use Rattle.avro_wire.specs.Number.{long, SpellsNumber}

-- a length, and that many bytes
abbrev pub SpellsBytes : List ℕ → List ℕ → Type 0
SpellsBytes value bytes = Joined (λ front. SpellsNumber long front (pos (length value))) (λ rest. rest ≡ value) bytes

-- items, in order
abbrev pub SpellsItems : {A : Type 0} → (A → List ℕ → Type 0) → List A → List ℕ → Type 0
SpellsItems SpellsItem [] bytes = bytes ≡ []
SpellsItems SpellsItem (item ∷ items) bytes = Joined (SpellsItem item) (SpellsItems SpellsItem items) bytes

-- a block that tells its count alone
pub record IsCounted {A : Type 0} (SpellsItem : A → List ℕ → Type 0) (items : List A) (bytes : List ℕ) : Type 0 where
  pub some : 0 < length items
  pub parts : Joined (λ front. SpellsNumber long front (pos (length items))) (SpellsItems SpellsItem items) bytes

-- a block that tells its count as a negative number, and then its size in bytes
pub record IsSized {A : Type 0} (SpellsItem : A → List ℕ → Type 0) (items : List A) (bytes : List ℕ) : Type 0 where
  pub count : List ℕ
  pub size : List ℕ
  pub spelled : List ℕ
  pub whole : bytes ≡ count ++ (size ++ spelled)
  pub less : ℕ
  pub counts : SpellsNumber long count (negsuc less)
  pub many : length items ≡ less + 1
  pub sizes : SpellsNumber long size (pos (length spelled))
  pub spells : SpellsItems SpellsItem items spelled

-- blocks with their items, and then the count 0
abbrev pub SpellsBlocks : {A : Type 0} → (A → List ℕ → Type 0) → List (List A) → List ℕ → Type 0
SpellsBlocks SpellsItem [] bytes = SpellsNumber long bytes (pos 0)
SpellsBlocks SpellsItem (items ∷ others) bytes =
    Joined (λ front. IsCounted SpellsItem items front ⊎ IsSized SpellsItem items front) (SpellsBlocks SpellsItem others)
    bytes

-- items, in whatever blocks they stand
pub record SpellsList {A : Type 0} (SpellsItem : A → List ℕ → Type 0) (items : List A) (bytes : List ℕ) : Type 0 where
  pub blocks : List (List A)
  pub together : flat_map (λ items. items) blocks ≡ items
  pub spelled : SpellsBlocks SpellsItem blocks bytes
