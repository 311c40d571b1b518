-- How deep and how large a schema is, by what it is made of.
use Rattle.std.proofs.Common.{◌≡◌, ℕ, ℤ, suc, ◌+◌, max, Bool, List, [], ◌∷◌, ◌++◌, map, Option, sym, ap, ◌∙◌, arith}
use Rattle.std.proofs.lemmas.List.Sums.{sum_by-cons}
use Rattle.schema_tree.specs.declared.logical.Logical.{Logical}
use Rattle.schema_tree.specs.declared.schema.Schema.{Schema}
use Rattle.schema_tree.specs.declared.schema.Schema.TheVariants as schemas
use Rattle.schema_tree.specs.declared.schema.Schema.TheVariants.{rolls-Null, rolls-Boolean, rolls-Int, rolls-Long}
use Rattle.schema_tree.specs.declared.schema.Schema.TheVariants.{rolls-Float, rolls-Double, rolls-Raw, rolls-Str}
use Rattle.schema_tree.specs.declared.schema.Schema.TheVariants.{rolls-Fixed, rolls-Enum, rolls-Rec, rolls-Array}
use Rattle.schema_tree.specs.declared.schema.Schema.TheVariants.{rolls-Map, rolls-Union}
use Rattle.schema_tree.specs.declared.schema.Schema.TheOpen as layers
use Rattle.schema_tree.specs.declared.schema.Schema.TheFolds.{fold-Field, fold-roll-Schema, fold-roll-Field}
use Rattle.schema_tree.specs.declared.schema.Field.{Field, roll-Field}
use Rattle.schema_tree.specs.Tree.{depth, depth_of, size, size_of, number_of_field}
use Rattle.schema_tree.specs.Measure.{depth_of_fields, depth_of_branches, size_of_fields, size_of_branches}

-- ---- a schema without another one in it

-- no schema is in it
pub record IsAlone (schema : Schema) : Type 0 where
  pub depth : depth schema ≡ 1
  pub size : size schema ≡ 1

-- the schema of null
pub alone-Null : IsAlone schemas.Null
alone-Null = record {
  depth = ap depth (sym rolls-Null) ∙ fold-roll-Schema ℕ ℕ depth_of number_of_field layers.Null;
  size = ap size (sym rolls-Null) ∙ fold-roll-Schema ℕ ℕ size_of number_of_field layers.Null;
}

-- of a boolean
pub alone-Boolean : IsAlone schemas.Boolean
alone-Boolean = record {
  depth = ap depth (sym rolls-Boolean) ∙ fold-roll-Schema ℕ ℕ depth_of number_of_field layers.Boolean;
  size = ap size (sym rolls-Boolean) ∙ fold-roll-Schema ℕ ℕ size_of number_of_field layers.Boolean;
}

-- of an int, whatever it stands for
pub alone-Int : (logical : Logical) → IsAlone (schemas.Int logical)
alone-Int logical = record {
  depth = ap depth (sym (rolls-Int logical)) ∙ fold-roll-Schema ℕ ℕ depth_of number_of_field (layers.Int logical);
  size = ap size (sym (rolls-Int logical)) ∙ fold-roll-Schema ℕ ℕ size_of number_of_field (layers.Int logical);
}

-- of a long, whatever it stands for
pub alone-Long : (logical : Logical) → IsAlone (schemas.Long logical)
alone-Long logical = record {
  depth = ap depth (sym (rolls-Long logical)) ∙ fold-roll-Schema ℕ ℕ depth_of number_of_field (layers.Long logical);
  size = ap size (sym (rolls-Long logical)) ∙ fold-roll-Schema ℕ ℕ size_of number_of_field (layers.Long logical);
}

-- of a float
pub alone-Float : IsAlone schemas.Float
alone-Float = record {
  depth = ap depth (sym rolls-Float) ∙ fold-roll-Schema ℕ ℕ depth_of number_of_field layers.Float;
  size = ap size (sym rolls-Float) ∙ fold-roll-Schema ℕ ℕ size_of number_of_field layers.Float;
}

-- of a double
pub alone-Double : IsAlone schemas.Double
alone-Double = record {
  depth = ap depth (sym rolls-Double) ∙ fold-roll-Schema ℕ ℕ depth_of number_of_field layers.Double;
  size = ap size (sym rolls-Double) ∙ fold-roll-Schema ℕ ℕ size_of number_of_field layers.Double;
}

-- of bytes
pub alone-Raw : IsAlone schemas.Raw
alone-Raw = record {
  depth = ap depth (sym rolls-Raw) ∙ fold-roll-Schema ℕ ℕ depth_of number_of_field layers.Raw;
  size = ap size (sym rolls-Raw) ∙ fold-roll-Schema ℕ ℕ size_of number_of_field layers.Raw;
}

-- of a text
pub alone-Str : IsAlone schemas.Str
alone-Str = record {
  depth = ap depth (sym rolls-Str) ∙ fold-roll-Schema ℕ ℕ depth_of number_of_field layers.Str;
  size = ap size (sym rolls-Str) ∙ fold-roll-Schema ℕ ℕ size_of number_of_field layers.Str;
}

-- a fixed
pub alone-Fixed : (name : List ℕ) (bytes : ℕ) → IsAlone (schemas.Fixed name bytes)
alone-Fixed name bytes = record {
  depth =
      ap depth (sym (rolls-Fixed name bytes))
      ∙ fold-roll-Schema ℕ ℕ depth_of number_of_field (layers.Fixed name bytes);
  size =
      ap size (sym (rolls-Fixed name bytes)) ∙ fold-roll-Schema ℕ ℕ size_of number_of_field (layers.Fixed name bytes);
}

-- an enum
pub alone-Enum : (name : List ℕ) (symbols : List (List ℕ)) → IsAlone (schemas.Enum name symbols)
alone-Enum name symbols = record {
  depth =
      ap depth (sym (rolls-Enum name symbols))
      ∙ fold-roll-Schema ℕ ℕ depth_of number_of_field (layers.Enum name symbols);
  size =
      ap size (sym (rolls-Enum name symbols))
      ∙ fold-roll-Schema ℕ ℕ size_of number_of_field (layers.Enum name symbols);
}

-- ---- a schema with others in it

-- a record is one above the deepest of its fields
pub depth-Rec : (name : List ℕ) (fields : List Field) → depth (schemas.Rec name fields) ≡ suc (depth_of_fields fields)
depth-Rec name fields =
    ap depth (sym (rolls-Rec name fields)) ∙ fold-roll-Schema ℕ ℕ depth_of number_of_field (layers.Rec name fields)

-- a record counts itself and what is in its fields
pub size-Rec : (name : List ℕ) (fields : List Field) → size (schemas.Rec name fields) ≡ suc (size_of_fields fields)
size-Rec name fields =
    ap size (sym (rolls-Rec name fields)) ∙ fold-roll-Schema ℕ ℕ size_of number_of_field (layers.Rec name fields)

-- a union is one above the deepest of its branches
pub depth-Union : (branches : List Schema) → depth (schemas.Union branches) ≡ suc (depth_of_branches branches)
depth-Union branches =
    ap depth (sym (rolls-Union branches)) ∙ fold-roll-Schema ℕ ℕ depth_of number_of_field (layers.Union branches)

-- a union counts itself and its branches
pub size-Union : (branches : List Schema) → size (schemas.Union branches) ≡ suc (size_of_branches branches)
size-Union branches =
    ap size (sym (rolls-Union branches)) ∙ fold-roll-Schema ℕ ℕ size_of number_of_field (layers.Union branches)

module _ (items : Schema) (id : Option ℤ) (keyed : Bool) where
  -- an array is one above its items
  pub depth-Array : depth (schemas.Array items id keyed) ≡ suc (depth items)
  depth-Array =
      ap depth (sym (rolls-Array items id keyed))
      ∙ fold-roll-Schema ℕ ℕ depth_of number_of_field (layers.Array items id keyed)

  -- an array counts itself and its items
  pub size-Array : size (schemas.Array items id keyed) ≡ suc (size items)
  size-Array =
      ap size (sym (rolls-Array items id keyed))
      ∙ fold-roll-Schema ℕ ℕ size_of number_of_field (layers.Array items id keyed)

module _ (values : Schema) (key_id value_id : Option ℤ) where
  -- a map is one above its values
  pub depth-Map : depth (schemas.Map values key_id value_id) ≡ suc (depth values)
  depth-Map =
      ap depth (sym (rolls-Map values key_id value_id))
      ∙ fold-roll-Schema ℕ ℕ depth_of number_of_field (layers.Map values key_id value_id)

  -- a map counts itself and its values
  pub size-Map : size (schemas.Map values key_id value_id) ≡ suc (size values)
  size-Map =
      ap size (sym (rolls-Map values key_id value_id))
      ∙ fold-roll-Schema ℕ ℕ size_of number_of_field (layers.Map values key_id value_id)

-- ---- fields after others

-- a field of the name, the id and the schema
abbrev pub field_of : List ℕ → Option ℤ → Schema → Field
field_of name id schema = roll-Field (record { name = name; id = id; schema = schema })

-- the first field, and those after it
size_cons : (field : Field) (fields : List Field)
    → size_of_fields (field ∷ fields) ≡ fold-Field ℕ ℕ size_of number_of_field field + size_of_fields fields
size_cons field fields =
    sum_by-cons (λ (n : ℕ). n) (fold-Field ℕ ℕ size_of number_of_field field)
    (map (fold-Field ℕ ℕ size_of number_of_field) fields)

-- the first branch, and those after it
pub branches_cons : (branch : Schema) (branches : List Schema)
    → size_of_branches (branch ∷ branches) ≡ size branch + size_of_branches branches
branches_cons branch branches = sum_by-cons (λ (n : ℕ). n) (size branch) (map size branches)

module _ (name : List ℕ) (id : Option ℤ) (schema : Schema) where
  -- the deepest of the fields with one more at the end
  pub depth-push : (before : List Field)
      → depth_of_fields (before ++ field_of name id schema ∷ []) ≡ max (depth_of_fields before) (depth schema)
  depth-push [] =
      omega (arith, fold-roll-Field ℕ ℕ depth_of number_of_field (record { name = name; id = id; schema = schema }))
  depth-push (field ∷ before) = omega (arith, depth-push before)

  -- the count of the fields with one more at the end
  pub size-push : (before : List Field)
      → size_of_fields (before ++ field_of name id schema ∷ []) ≡ size_of_fields before + size schema
  size-push [] =
      let last =
      fold-roll-Field ℕ ℕ size_of number_of_field (record { name = name; id = id; schema = schema }) in
      omega (arith, size_cons (field_of name id schema) [], last)
  size-push (field ∷ before) =
      let behind = size_cons field (before ++ field_of name id schema ∷ []) in
      omega (arith, size-push before, size_cons field before, behind)
