-- Induction over schemas.
use Rattle.std.proofs.Common.{ℕ, ℤ, Bool, List, [], ◌∷◌, map, Option, sym, subst}
use Rattle.schema_tree.specs.declared.logical.Logical.{Logical}
use Rattle.schema_tree.specs.declared.schema.Schema.{Schema}
use Rattle.schema_tree.specs.declared.schema.Schema.TheVariants as schemas
use Rattle.schema_tree.specs.declared.schema.Schema.TheVariants.{rolls-Null, rolls-Boolean, rolls-Int, rolls-Long}
use Rattle.schema_tree.specs.declared.schema.Schema.TheVariants.{rolls-Float, rolls-Double, rolls-Raw, rolls-Str}
use Rattle.schema_tree.specs.declared.schema.Schema.TheVariants.{rolls-Fixed, rolls-Enum, rolls-Rec, rolls-Array}
use Rattle.schema_tree.specs.declared.schema.Schema.TheVariants.{rolls-Map, rolls-Union}
use Rattle.schema_tree.specs.declared.schema.Schema.TheOpen as open_schema
use Rattle.schema_tree.specs.declared.schema.Schema.TheOpen.{Schema-F, Field-F}
use Rattle.schema_tree.specs.declared.schema.Schema.TheFolds.{ind-Schema, map-Schema}
use Rattle.schema_tree.specs.declared.schema.Schema.TheViews.{roll-Schema}
use Rattle.schema_tree.specs.declared.schema.Field.{Field, out-Field}

-- each of them is so
abbrev pub Each : {X : Type 0} → (X → Type 0) → List X → Type 0
Each P [] = Unit {0}
Each P (x ∷ xs) = P x × Each P xs

-- a list of things that are so, as a list of things, each of which is so
each : {X : Type 0} (P : X → Type 0) (list : List ((x : X) × P x)) → Each P (map (λ e. e.0) list)
each P [] = tt
each P (x ∷ list) = (x.1, each P list)

-- what holds of each schema, by what holds of those in it
pub record Cases (P : Schema → Type 0) : Type 0 where
  pub null : P schemas.Null
  pub boolean : P schemas.Boolean
  pub int : (logical : Logical) → P (schemas.Int logical)
  pub long : (logical : Logical) → P (schemas.Long logical)
  pub float : P schemas.Float
  pub double : P schemas.Double
  pub raw : P schemas.Raw
  pub str : P schemas.Str
  pub fixed : (name : List ℕ) (size : ℕ) → P (schemas.Fixed name size)
  pub enum : (name : List ℕ) (symbols : List (List ℕ)) → P (schemas.Enum name symbols)
  pub rec : (name : List ℕ) (fields : List Field) → Each (λ field. P (out-Field field).schema) fields
      → P (schemas.Rec name fields)
  pub array : (items : Schema) (element_id : Option ℤ) (keyed : Bool) → P items
      → P (schemas.Array items element_id keyed)
  pub map_of : (values : Schema) (key_id value_id : Option ℤ) → P values → P (schemas.Map values key_id value_id)
  pub union : (branches : List Schema) → Each P branches → P (schemas.Union branches)

-- a layer of schemas that are so
abbrev Layer : (Schema → Type 0) → Type 0
Layer P = Schema-F ((schema : Schema) × P schema) ((field : Field) × P (out-Field field).schema)

module _ (P : Schema → Type 0) (cases : Cases P) where
  here : (layer : Layer P) → P (roll-Schema (map-Schema _ _ Schema Field (λ e. e.0) (λ e. e.0) layer))
  here open_schema.Null = subst P (sym rolls-Null) cases.null
  here open_schema.Boolean = subst P (sym rolls-Boolean) cases.boolean
  here (open_schema.Int logical) = subst P (sym (rolls-Int logical)) (cases.int logical)
  here (open_schema.Long logical) = subst P (sym (rolls-Long logical)) (cases.long logical)
  here open_schema.Float = subst P (sym rolls-Float) cases.float
  here open_schema.Double = subst P (sym rolls-Double) cases.double
  here open_schema.Raw = subst P (sym rolls-Raw) cases.raw
  here open_schema.Str = subst P (sym rolls-Str) cases.str
  here (open_schema.Fixed name size) = subst P (sym (rolls-Fixed name size)) (cases.fixed name size)
  here (open_schema.Enum name symbols) = subst P (sym (rolls-Enum name symbols)) (cases.enum name symbols)
  here (open_schema.Rec name fields) =
      subst P (sym (rolls-Rec name (map (λ e. e.0) fields)))
      (cases.rec name (map (λ e. e.0) fields) (each (λ field. P (out-Field field).schema) fields))
  here (open_schema.Array items element_id keyed) =
      subst P (sym (rolls-Array items.0 element_id keyed)) (cases.array items.0 element_id keyed items.1)
  here (open_schema.Map values key_id value_id) =
      subst P (sym (rolls-Map values.0 key_id value_id)) (cases.map_of values.0 key_id value_id values.1)
  here (open_schema.Union branches) =
      subst P (sym (rolls-Union (map (λ e. e.0) branches))) (cases.union (map (λ e. e.0) branches) (each P branches))

  -- so does it hold of every schema
  pub every : (schema : Schema) → P schema
  every =
      ind-Schema P (λ field. P (out-Field field).schema)
      (λ x y is. subst (λ layer. P (roll-Schema layer)) is (here y))
      (λ x y is. subst (λ layer. P layer.schema) is y.schema.1)
