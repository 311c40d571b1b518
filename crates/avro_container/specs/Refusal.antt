-- How a reader's refusals of numbers and lengths are named by the part of the file of the bytes.
use Rattle.std.specs.Prelude.{ℕ, Bool, true, false}
use Rattle.avro_wire.specs.declared.refusal.WireRefusal.{WireRefusal}
use Rattle.avro_wire.specs.declared.refusal.WireRefusal.TheVariants as wire
use Rattle.avro_container.specs.declared.refusal.ContainerRefusal.{ContainerRefusal}
use Rattle.avro_container.specs.declared.refusal.ContainerRefusal.TheVariants.{Limit, Magic, Header, Codec, Short}
use Rattle.avro_container.specs.declared.refusal.ContainerRefusal.TheVariants.{Form, Sync, Memory}

-- memory ran out, the one free answer
abbrev pub is_memory : ContainerRefusal → Bool
is_memory Memory = true
is_memory (Limit found) = false
is_memory Magic = false
is_memory (Header place) = false
is_memory (Codec name) = false
is_memory (Short place) = false
is_memory (Form block) = false
is_memory (Sync block) = false

-- in the header's map
abbrev pub header_refusal : WireRefusal → ContainerRefusal
header_refusal (wire.Short place) = Short place
header_refusal (wire.TooLong place) = Header place

-- in the count or the size of a block
abbrev pub block_refusal : ℕ → WireRefusal → ContainerRefusal
block_refusal block (wire.Short place) = Short place
block_refusal block (wire.TooLong place) = Form block
