-- What a value means is read of it.
use Rattle.std.proofs.Common.{ℕ, ◌≤◌, List, arith}
use Rattle.serde_json.specs.Data.{Data}
use Rattle.schema_tree.specs.declared.schema.Schema.{Schema}
use Rattle.schema_tree.specs.declared.schema.Field.{Field}
use Rattle.schema_tree.specs.Measure.{depth_of_fields, size_of_fields}
use Rattle.avro_schema.specs.Defined.{Definitions}
use Rattle.avro_schema.specs.Meaning.{Means, primitive_word, union, primitive_type, record_type, enum_type}
use Rattle.avro_schema.specs.Meaning.{fixed_type, array_type, map_type, AreBranches, no_branch, branch, AreFields}
use Rattle.avro_schema.specs.Meaning.{no_field, field}
use Rattle.schema_tree.specs.TreeLaws.{depth-push, size-push}
use Rattle.avro_schema.proofs.Only.{IsRead, AreBranchesRead, AreFieldsRead, primitive_only, use_only}
use Rattle.avro_schema.proofs.OnlyBranches.{no_branch_only, one_branch_only, union_only}
use Rattle.avro_schema.proofs.OnlyFields.{no_field_only, one_field_only}
use Rattle.avro_schema.proofs.OnlyObject.{primitive_type_only, record_only, enum_only, fixed_only, array_only}
use Rattle.avro_schema.proofs.OnlyObject.{map_only}

-- fields behind others are neither fewer nor flatter than those
record Grown (before after : List Field) : Type 0 where
  size : size_of_fields before ≤ size_of_fields after
  depth : depth_of_fields before ≤ depth_of_fields after

grown : {scope : List ℕ} {names : Definitions} {before : List Field} {values : List Data} {fields : List Field}
    {after : Definitions} → AreFields scope names before values fields after → Grown before fields
grown (no_field scope names before) = record { size = omega arith; depth = omega arith }
grown (field scope names before pairs values id name value schema fields between after id_is name_is free value_is is
    others) =
    let rest = grown others in
    record {
      size =
          omega (arith, rest.size, size-push name id schema before);
      depth = omega
          (arith, rest.depth, depth-push name id schema before);
    }

mutual
  -- the schema that a value means is read of it
  pub means_only : {scope : List ℕ} {names : Definitions} {value : Data} {schema : Schema} {after : Definitions}
      → Means scope names value schema after → IsRead scope names value schema after
  means_only (primitive_word scope names word schema primitive) = primitive_only scope names word schema primitive
  means_only (Means.name scope names word schema none known) = use_only scope names word schema none known
  means_only (union scope names items branches after some are) = union_only scope names items branches after some
      (branches_only are)
  means_only (primitive_type scope names members word schema typed primitive) = primitive_type_only scope names
      members word schema typed primitive
  means_only (record_type scope names members name values fields inside typed defines values_are are) = record_only
      scope names members name values fields inside typed defines values_are (fields_only are)
  means_only (enum_type scope names members name values symbols typed defines values_are are) = enum_only scope names
      members name values symbols typed defines values_are are
  means_only (fixed_type scope names members name bytes typed defines bytes_are) = fixed_only scope names members name
      bytes typed defines bytes_are
  means_only (array_type scope names members id value items after typed id_is value_is is) = array_only scope names
      members id value items after typed id_is value_is (means_only is)
  means_only (map_type scope names members key_id value_id value values after typed key_is id_is value_is is) =
      map_only scope names members key_id value_id value values after typed key_is id_is value_is (means_only is)

  -- the branches that values are are read of them
  branches_only : {scope : List ℕ} {names : Definitions} {values : List Data} {branches : List Schema}
      {after : Definitions} → AreBranches scope names values branches after
      → AreBranchesRead scope names values branches after
  branches_only (no_branch scope names) = no_branch_only scope names
  branches_only (branch scope names value values schema branches between after none is others) = one_branch_only scope
      names value values schema branches between after none (means_only is) (branches_only others)

  -- the fields that values are are read of them
  fields_only : {scope : List ℕ} {names : Definitions} {before : List Field} {values : List Data}
      {fields : List Field} {after : Definitions} → AreFields scope names before values fields after
      → AreFieldsRead scope names before values fields after
  fields_only (no_field scope names before) = no_field_only scope names before
  fields_only (field scope names before members values id name value schema fields between after id_is name_is free
      value_is is others) =
      let more = grown others in
      one_field_only scope names before members values id name value schema fields between after id_is name_is free
      value_is (means_only is) more.size more.depth (fields_only others)
