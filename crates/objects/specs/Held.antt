-- Which objects the blocks of a container hold, whatever reads them.
-- Avro 1.11, "Object Container Files".
use Rattle.std.specs.Prelude.{◌≡◌, ℕ, List, [], ◌∷◌, ◌++◌, length}
use Rattle.avro_wire.specs.Blocks.{SpellsItems}
use Rattle.avro_container.specs.declared.container.Block.{Block}
use Rattle.objects.specs.Blocks.{count_of}

-- the block has as many objects as it says, in order, and no byte more
pub record HoldsBlock {V : Type 0} (Spells : V → List ℕ → Type 0) (objects : List V) (block : Block) : Type 0 where
  pub many : count_of block ≡ length objects
  pub spelled : SpellsItems Spells objects block.bytes

-- the objects are those of one block, and after them those of the others
pub record AreParted {V : Type 0} (First Others : List V → Type 0) (objects : List V) : Type 0 where
  pub front : List V
  pub rest : List V
  pub parts : objects ≡ front ++ rest
  pub first : First front
  pub others : Others rest

-- the blocks hold these objects, in this order, and no others
abbrev pub Hold : {V : Type 0} → (V → List ℕ → Type 0) → List Block → List V → Type 0
Hold Spells [] objects = objects ≡ []
Hold Spells (block ∷ blocks) objects =
    AreParted (λ front. HoldsBlock Spells front block) (Hold Spells blocks) objects
