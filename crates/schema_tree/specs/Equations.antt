-- What a fold is at each kind of schema, and at a field.
use Rattle.std.proofs.Common.{◌≡◌, ℕ, ℤ, Bool, List, [], ◌∷◌, map, Option, refl, ap, ap₂, sym, ◌∙◌}
use Rattle.schema_tree.specs.declared.logical.Logical.{Logical}
use Rattle.schema_tree.specs.declared.schema.Schema.{Schema}
use Rattle.schema_tree.specs.declared.schema.Schema.TheVariants as schemas
use Rattle.schema_tree.specs.declared.schema.Schema.TheVariants.{rolls-Null, rolls-Boolean, rolls-Int, rolls-Long}
use Rattle.schema_tree.specs.declared.schema.Schema.TheVariants.{rolls-Float, rolls-Double, rolls-Raw, rolls-Str}
use Rattle.schema_tree.specs.declared.schema.Schema.TheVariants.{rolls-Fixed, rolls-Enum, rolls-Rec, rolls-Array}
use Rattle.schema_tree.specs.declared.schema.Schema.TheVariants.{rolls-Map, rolls-Union}
use Rattle.schema_tree.specs.declared.schema.Schema.TheOpen as open_schema
use Rattle.schema_tree.specs.declared.schema.Schema.TheOpen.{Schema-F, Field-F}
use Rattle.schema_tree.specs.declared.schema.Schema.TheFolds.{fold-Schema, fold-Field, fold-roll-Schema, fold_out-Field}
use Rattle.schema_tree.specs.declared.schema.Field.{Field, out-Field}

module _ {A B : Type 0} (step : Schema-F A B → A) (field : Field-F A B → B) where
  pub fold_null : fold-Schema A B step field schemas.Null ≡ step open_schema.Null
  fold_null = ap (fold-Schema A B step field) (sym rolls-Null) ∙ fold-roll-Schema A B step field open_schema.Null

  pub fold_boolean : fold-Schema A B step field schemas.Boolean ≡ step open_schema.Boolean
  fold_boolean =
      ap (fold-Schema A B step field) (sym rolls-Boolean) ∙ fold-roll-Schema A B step field open_schema.Boolean

  pub fold_int : (logical : Logical) → fold-Schema A B step field (schemas.Int logical) ≡ step (open_schema.Int logical)
  fold_int logical =
      ap (fold-Schema A B step field) (sym (rolls-Int logical))
      ∙ fold-roll-Schema A B step field (open_schema.Int logical)

  pub fold_long : (logical : Logical)
      → fold-Schema A B step field (schemas.Long logical) ≡ step (open_schema.Long logical)
  fold_long logical =
      ap (fold-Schema A B step field) (sym (rolls-Long logical))
      ∙ fold-roll-Schema A B step field (open_schema.Long logical)

  pub fold_float : fold-Schema A B step field schemas.Float ≡ step open_schema.Float
  fold_float = ap (fold-Schema A B step field) (sym rolls-Float) ∙ fold-roll-Schema A B step field open_schema.Float

  pub fold_double : fold-Schema A B step field schemas.Double ≡ step open_schema.Double
  fold_double = ap (fold-Schema A B step field) (sym rolls-Double) ∙ fold-roll-Schema A B step field open_schema.Double

  pub fold_raw : fold-Schema A B step field schemas.Raw ≡ step open_schema.Raw
  fold_raw = ap (fold-Schema A B step field) (sym rolls-Raw) ∙ fold-roll-Schema A B step field open_schema.Raw

  pub fold_str : fold-Schema A B step field schemas.Str ≡ step open_schema.Str
  fold_str = ap (fold-Schema A B step field) (sym rolls-Str) ∙ fold-roll-Schema A B step field open_schema.Str

  pub fold_fixed : (name : List ℕ) (size : ℕ)
      → fold-Schema A B step field (schemas.Fixed name size) ≡ step (open_schema.Fixed name size)
  fold_fixed name size =
      ap (fold-Schema A B step field) (sym (rolls-Fixed name size))
      ∙ fold-roll-Schema A B step field (open_schema.Fixed name size)

  pub fold_enum : (name : List ℕ) (symbols : List (List ℕ))
      → fold-Schema A B step field (schemas.Enum name symbols) ≡ step (open_schema.Enum name symbols)
  fold_enum name symbols =
      ap (fold-Schema A B step field) (sym (rolls-Enum name symbols))
      ∙ fold-roll-Schema A B step field (open_schema.Enum name symbols)

  pub fold_rec : (name : List ℕ) (fields : List Field)
      → fold-Schema A B step field (schemas.Rec name fields)
      ≡ step (open_schema.Rec name (map (fold-Field A B step field) fields))
  fold_rec name fields =
      ap (fold-Schema A B step field) (sym (rolls-Rec name fields))
      ∙ fold-roll-Schema A B step field (open_schema.Rec name fields)

  pub fold_array : (items : Schema) (element_id : Option ℤ) (keyed : Bool)
      → fold-Schema A B step field (schemas.Array items element_id keyed)
      ≡ step (open_schema.Array (fold-Schema A B step field items) element_id keyed)
  fold_array items element_id keyed =
      ap (fold-Schema A B step field) (sym (rolls-Array items element_id keyed))
      ∙ fold-roll-Schema A B step field (open_schema.Array items element_id keyed)

  pub fold_map : (values : Schema) (key_id : Option ℤ) (value_id : Option ℤ)
      → fold-Schema A B step field (schemas.Map values key_id value_id)
      ≡ step (open_schema.Map (fold-Schema A B step field values) key_id value_id)
  fold_map values key_id value_id =
      ap (fold-Schema A B step field) (sym (rolls-Map values key_id value_id))
      ∙ fold-roll-Schema A B step field (open_schema.Map values key_id value_id)

  pub fold_union : (branches : List Schema)
      → fold-Schema A B step field (schemas.Union branches)
      ≡ step (open_schema.Union (map (fold-Schema A B step field) branches))
  fold_union branches =
      ap (fold-Schema A B step field) (sym (rolls-Union branches))
      ∙ fold-roll-Schema A B step field (open_schema.Union branches)

  -- a field, by its schema
  abbrev pub of_field : Field → B
  of_field f = field (record {
    name = (out-Field f).name;
    id = (out-Field f).id;
    schema = fold-Schema A B step field (out-Field f).schema;
  })

  pub fold_field : (f : Field) → fold-Field A B step field f ≡ of_field f
  fold_field f = fold_out-Field A B step field f

  fold_fields : (fields : List Field) → map (fold-Field A B step field) fields ≡ map of_field fields
  fold_fields [] = refl
  fold_fields (f ∷ fields) = ap₂ (λ g gs. g ∷ gs) (fold_field f) (fold_fields fields)

  -- a record, by the schemas of its fields
  pub fold_record : (name : List ℕ) (fields : List Field)
      → fold-Schema A B step field (schemas.Rec name fields) ≡ step (open_schema.Rec name (map of_field fields))
  fold_record name fields = fold_rec name fields ∙ ap (λ bs. step (open_schema.Rec name bs)) (fold_fields fields)
