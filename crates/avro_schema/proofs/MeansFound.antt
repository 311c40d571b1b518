-- What is read is what the value means, counted and no deeper than there is room.
use Rattle.std.proofs.Common.{ℕ, zero, suc, refl, arith}
use Rattle.serde_json.specs.Data.{null, boolean, number, string, array, object}
use Rattle.serde_json.specs.Read.{read}
use Rattle.avro_schema.specs.Reading.{Reader, primitive_of, layer_at, no_schema, schema_at}
use Rattle.avro_schema.proofs.Found.{Found, Finds, word_found}
use Rattle.avro_schema.proofs.FoundBranches.{union_found}
use Rattle.avro_schema.proofs.FoundObject.{object_found}

-- one layer
layer_found : (room : ℕ) (schema_in : Reader) → Finds 1 room schema_in → Finds 0 room (layer_at schema_in room)
layer_found room schema_in finds scope seen null taken read = absurd cc
layer_found room schema_in finds scope seen (boolean flag) taken read = absurd cc
layer_found room schema_in finds scope seen (number num) taken read = absurd cc
layer_found room schema_in finds scope seen (string word) taken read =
    word_found room scope word seen (primitive_of word) taken refl read
layer_found room schema_in finds scope seen (array items) taken read =
    union_found room schema_in finds scope seen items taken read
layer_found room schema_in finds scope seen (object pairs) taken read =
    object_found room schema_in finds scope seen pairs taken read

-- a schema in one stands one level below it
one_below : (room : ℕ) (schema_in : Reader) → Finds 0 room schema_in → Finds 1 (suc room) schema_in
one_below room schema_in finds scope seen value taken read =
    let found : Found 0 room scope seen value taken = finds scope seen value taken read in
    record { means = found.means; count = found.count; deep = omega (arith, found.deep); few = found.few }

-- what is read is the schema that the value means, counted and no deeper than there is room
pub finds_at : (room : ℕ) → Finds 0 room (schema_at room)
unfolding schema_at
finds_at zero = layer_found 0 no_schema (λ scope seen value taken read. absurd cc)
finds_at (suc room) = layer_found (suc room) (schema_at room) (one_below room (schema_at room) (finds_at room))
