-- What is left of a container's objects while they are shown one after the other.
use Rattle.std.specs.Prelude.{◌≡◌, ℕ, ◌+◌, ◌<◌, ◌≤◌, ◌^◌, Bool, true, false, length, Result, Ok, Err}
use Rattle.objects.specs.declared.blocks.Rest.{Rest}
use Rattle.objects.specs.Object.{Reader}
use Rattle.objects.specs.Stream.{Stream, ended, refused, before}
use Rattle.objects.specs.Blocks.{block_from, blocks_from}

-- the objects that are left of the block that was begun, and those of the blocks after it
abbrev pub left_of : {V E : Type 0} → Reader V E → (ℕ → E) → Rest → Stream V E
left_of read rest r =
    block_from read (rest r.number) r.block.now (blocks_from read rest (r.number + 1) r.walk.left) r.left r.place

-- one object more is shown; or there is none; or the next one is refused, and is still the next one
abbrev pub IsStep : {V E : Type 0} → Stream V E → Result Bool E → V → Stream V E → Type 0
IsStep old (Ok true) object new = old ≡ before object new
IsStep old (Ok false) object new = (old ≡ ended) × (new ≡ ended)
IsStep old (Err e) object new = (old ≡ refused e) × (new ≡ refused e)

-- if there is no next object
abbrev pub IfEnd : {E : Type 0} → Result Bool E → Type 0 → Type 0
IfEnd (Ok true) fact = Unit {0}
IfEnd (Ok false) fact = fact
IfEnd (Err e) fact = Unit {0}

-- the first object is left out
pub record IsWithoutFirst {V E : Type 0} (old new : Stream V E) : Type 0 where
  pub first : V
  pub parts : old ≡ before first new

-- one object more is ignored; or there is none; or the next one is refused, and is still the next one
abbrev pub IsPass : {V E : Type 0} → Stream V E → Result Bool E → Stream V E → Type 0
IsPass old (Ok true) new = IsWithoutFirst old new
IsPass old (Ok false) new = (old ≡ ended) × (new ≡ ended)
IsPass old (Err e) new = (old ≡ refused e) × (new ≡ refused e)

-- the next object is in a block that was begun; or there is none; or the end of the block is refused
abbrev pub IsBegun : {V E : Type 0} → ℕ → Result Bool E → Stream V E → Type 0
IsBegun left (Ok true) stream = 0 < left
IsBegun left (Ok false) stream = stream ≡ ended
IsBegun left (Err e) stream = stream ≡ refused e

-- places and numbers of blocks are within their bounds
pub record IsWithin (rest : Rest) : Type 0 where
  pub place : rest.place ≤ length rest.block.now
  pub few : rest.number + length rest.walk.left < 2 ^ 63

-- the reader can go on: it is right, places and numbers are within their bounds, and the slot is one for its objects
pub record IsReady {R S : Type 0} (right : R → Type 0) (fits : R → S → Type 0) (reader : R) (rest : Rest) (slot : S)
    : Type 0 where
  pub within : IsWithin rest
  pub reader_right : right reader
  pub slot_fits : fits reader slot
