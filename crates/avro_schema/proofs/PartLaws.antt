-- The reader of the schemas in one is the reader of schemas, one level down.
use Rattle.std.proofs.Common.{◌≡◌, ℕ, zero, suc, Vec, Global, List, map, Err, refl, sym, ap, ◌∙◌}
use Rattle.serde_json.specs.Data.{Data}
use Rattle.serde_json.specs.View.{view}
use Rattle.serde_json.specs.declared.value.Value.{Value, Array}
use Rattle.serde_json.proofs.Views.{view-Array}
use Rattle.avro_schema.specs.declared.refusal.SchemaRefusal.TheVariants.{Nesting}
use Rattle.avro_schema.specs.Defined.{Seen}
use Rattle.avro_schema.specs.Reading.{Reader, layer_at, union_at, schema_at}
use Rattle.avro_schema.specs.Parts.{schema_below}
use Rattle.avro_schema.proofs.MemberLaws.{values_of-items_of}

-- a schema, over the reader of those in it
pub schema_layer : (room : ℕ) → schema_at room ≡ layer_at (schema_below room) room
unfolding schema_at schema_below
schema_layer zero = refl
schema_layer (suc room) = refl

-- with a level left a schema may stand in one
pub below_layer : (levels room : ℕ) → levels ≡ suc room → schema_below levels ≡ layer_at (schema_below room) room
unfolding schema_below
below_layer levels room is = ap schema_below is ∙ schema_layer room

-- with no level left none may
pub below_none : (levels : ℕ) (scope : List ℕ) (seen : Seen) (value : Data) → levels ≡ 0
    → schema_below levels scope seen value ≡ Err Nesting
unfolding schema_below
below_none levels scope seen value is = ap (λ (n : ℕ). schema_below n scope seen value) is

-- an array is read as the union of its items
pub layer_array : (schema_in : Reader) (room : ℕ) (scope : List ℕ) (seen : Seen) (value : Value)
    (values : Vec Value Global) (items : List Value) → value ≡ Array values → items ≡ values.items
    → layer_at schema_in room scope seen (view value) ≡ union_at schema_in scope room seen (map view items)
layer_array schema_in room scope seen value values items is same =
    ap (λ (v : Value). layer_at schema_in room scope seen (view v)) is
    ∙ ap (layer_at schema_in room scope seen) (view-Array values)
    ∙ ap (union_at schema_in scope room seen) (values_of-items_of (map view values.items))
    ∙ ap (λ (vs : List Value). union_at schema_in scope room seen (map view vs)) (sym same)
