-- What comes before the items of a block and what has to be true after them, and blocks put together of these.
-- Avro 1.11, "Arrays", "Maps".
use Rattle.std.specs.Prelude.{ℕ, suc, ◌-◌, ◌==◌, ℤ, pos, negsuc, List, Option, Some, None, Result, Ok, Err}
use Rattle.std.specs.Prelude.{if◌then◌else◌}
use Rattle.words.specs.Reading.{◌>>=◌, map_value}
use Rattle.avro_wire.specs.Number.{long}
use Rattle.datum_reading.specs.declared.cursor.Cursor.{Cursor}
use Rattle.datum_reading.specs.declared.block.BlockSize.{BlockSize}
use Rattle.datum_reading.specs.declared.block.BlockHead.{BlockHead}
use Rattle.datum_reading.specs.declared.refusal.DatumRefusal.{DatumRefusal}
use Rattle.datum_reading.specs.declared.refusal.DatumRefusal.TheVariants.{Size}
use Rattle.datum_reading.specs.Reading.{number_from, with_count, is_natural}

-- the head of a block that tells its count alone, which began at the place
abbrev pub counted_head : ℕ → ℕ → Cursor → Result BlockHead DatumRefusal
counted_head place count at =
    if count == 0 then Ok (record { count = count; size = None; first = at })
    else map_value (λ (first : Cursor). record { count = count; size = None; first = first })
    (with_count place count at)

-- the head of a block that tells its size too
unfoldable pub sized_head : ℕ → ℕ → List ℕ → Cursor → Result BlockHead DatumRefusal
sized_head place count input at = do
  after ← with_count place count at
  size ← number_from long input after
  Ok (record { count = count; size = Some (record { bytes = size.0; place = after.place }); first = size.1 })

-- the head of a block, by its count, which began at the place
abbrev pub head_of : ℕ → List ℕ → ℤ × Cursor → Result BlockHead DatumRefusal
head_of place input (pos count, at) = counted_head place count at
head_of place input (negsuc count, at) = sized_head place (suc count) input at

-- the head of the block at a cursor
unfoldable pub head_at : List ℕ → Cursor → Result BlockHead DatumRefusal
head_at input at = number_from long input at >>= head_of at.place input

-- the size that is reported is that of the items between the places
abbrev pub sized_so : Option BlockSize → ℕ → Cursor → Result Cursor DatumRefusal
sized_so None first after = Ok after
sized_so (Some size) first after =
    if is_natural size.bytes (after.place - first) then Ok after else Err (Size size.place)

-- the cursor after the block's items, where the size that is reported is theirs
abbrev pub closed_at : BlockHead → Cursor → Result Cursor DatumRefusal
closed_at head after = sized_so head.size head.first.place after
