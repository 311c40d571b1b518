-- How a value's refusals come from those of its numbers and lengths.
use Rattle.std.specs.Prelude.{Bool, true, false}
use Rattle.avro_wire.specs.declared.refusal.WireRefusal.{WireRefusal}
use Rattle.avro_wire.specs.declared.refusal.WireRefusal.TheVariants as wire
use Rattle.datum_reading.specs.declared.refusal.DatumRefusal.{DatumRefusal}
use Rattle.datum_reading.specs.declared.refusal.DatumRefusal.TheVariants.{Short, TooLong, Flag, Branch, Utf8, Size}
use Rattle.datum_reading.specs.declared.refusal.DatumRefusal.TheVariants.{Items, Memory}

-- memory ran out, the one free answer
abbrev pub is_memory : DatumRefusal → Bool
is_memory (Short place) = false
is_memory (TooLong place) = false
is_memory (Flag place) = false
is_memory (Branch place) = false
is_memory (Utf8 place) = false
is_memory (Size place) = false
is_memory (Items place) = false
is_memory Memory = true

-- of a number or a length
abbrev pub wire_refusal : WireRefusal → DatumRefusal
wire_refusal (wire.Short place) = Short place
wire_refusal (wire.TooLong place) = TooLong place
