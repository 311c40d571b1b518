-- The fields that a record's values mean are read of them, by what is read in each.
use Rattle.std.proofs.Common.{◌≡◌, ℕ, ◌+◌, ◌≤◌, false, ℤ, List, [], ◌∷◌, ◌++◌, codes, Option, Some, Ok, decimal, refl}
use Rattle.std.proofs.Common.{ap, ◌∙◌, arith}
use Rattle.serde_json.specs.Data.{Data, object, Members}
use Rattle.serde_json.specs.Find.{get_member}
use Rattle.schema_tree.specs.declared.schema.Schema.{Schema}
use Rattle.schema_tree.specs.declared.schema.Field.{Field}
use Rattle.avro_schema.specs.Refusal.{under}
use Rattle.schema_tree.specs.Tree.{size}
use Rattle.schema_tree.specs.Measure.{depth_of_fields, size_of_fields}
use Rattle.avro_schema.specs.Member.{needed, text_at, id_at}
use Rattle.avro_schema.specs.Defined.{Definitions}
use Rattle.avro_schema.specs.Parts.{schema_below}
use Rattle.avro_schema.specs.Reading.{has_field, new_field_name, field_at, fields_at}
use Rattle.words.specs.Steps.{bind_only}
use Rattle.avro_schema.proofs.Steps.{met}
use Rattle.schema_tree.specs.TreeLaws.{field_of, depth-push, size-push}
use Rattle.avro_schema.proofs.MeansPart.{new_only, needed_only}
use Rattle.avro_schema.proofs.Only.{IsRead, AreFieldsRead, below_only}

-- no field
pub no_field_only : (scope : List ℕ) (names : Definitions) (before : List Field)
    → AreFieldsRead scope names before [] before names
unfolding fields_at
no_field_only scope names before room start place deep few = refl

-- one field, and those behind it
pub one_field_only : (scope : List ℕ) (names : Definitions) (before : List Field) (members : Members)
    (values : List Data) (id : Option ℤ) (name : List ℕ) (value : Data) (schema : Schema) (fields : List Field)
    (between after : Definitions)
    → id_at (codes "field-id") members ≡ Ok id → text_at (codes "name") members ≡ Ok name
    → has_field before name ≡ false → get_member (codes "type") members ≡ Some value
    → IsRead scope names value schema between
    → size_of_fields (before ++ field_of name id schema ∷ []) ≤ size_of_fields fields
    → depth_of_fields (before ++ field_of name id schema ∷ []) ≤ depth_of_fields fields
    → AreFieldsRead scope between (before ++ field_of name id schema ∷ []) values fields after
    → AreFieldsRead scope names before (object members ∷ values) fields after
unfolding fields_at
one_field_only scope names before members values id name value schema fields between after id_is name_is free value_is
    is larger deeper others room start place deep few =
    let pushed = size-push name id schema before in
    let count = start + size_of_fields before in
    let field_read : field_at (schema_below room scope) before (met names count) (object members) ≡ Ok
    (field_of name id schema, met between (count + size schema)) =
    bind_only (id_at (codes "field-id") members) _ id _ id_is
    (bind_only (text_at (codes "name") members) _ name _ name_is
    (bind_only (new_field_name before name) _ name _ (new_only before name free)
    (bind_only (needed (codes "type") members) _ value _ (needed_only (codes "type") members value value_is)
    (bind_only (under (codes "type") (schema_below room scope (met names count) value)) _
    (schema, met between (count + size schema)) _
    (ap (under (codes "type"))
    (below_only scope names value schema between is room count
    (omega (arith, deep, deeper, depth-push name id schema before)) (omega (arith, few, larger, pushed))))
    refl)))) in
    bind_only (under (decimal place) (field_at (schema_below room scope) before (met names count) (object members))) _
    (field_of name id schema, met between (count + size schema)) _
    (ap (under (decimal place)) field_read)
    (ap (λ (n : ℕ). fields_at (schema_below room scope) (place + 1) (before ++ field_of name id schema ∷ [])
    (met between n) values) (omega (arith, pushed)) ∙ others room start (place + 1) deep few)
