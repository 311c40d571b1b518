use Rattle.std.proofs.Common.{◌≡◌, ap, sym, ◌∙◌, List, [], ◌∷◌, Some, None, false, Bool, map, refl, Option}
use Rattle.std.specs.List.{slice_get}
use Rattle.schema_tree.specs.declared.schema.Schema.{Schema}
use Rattle.avro_schema.specs.Printing.{Written, written_of, written_field, written, null_is_first}
use Rattle.schema_tree.specs.Equations.{fold_union}
use Rattle.avro_schema.proofs.printing.begins_with_null.Goals as goal

-- whether the schema that may be there is the null type
abbrev is_null_there : Option Schema → Bool
is_null_there None = false
is_null_there (Some branch) = (written branch).is_null

first_is : (branches : List Schema) → null_is_first (map written branches) ≡ is_null_there (slice_get branches 0)
first_is [] = refl
first_is (branch ∷ branches) = refl

-- a union begins with null where its first branch is the null type
begins : (schema : Schema) (branches : List Schema) (first : Option Schema) → (written schema).begins_with_null ≡ null_is_first (map written branches) → first ≡ slice_get branches 0 → is_null_there first ≡ (written schema).begins_with_null
begins schema branches first is there = ap is_null_there there ∙ sym (is ∙ first_is branches)

pub returns-in-Some : goal.returns-in-Some
returns-in-Some c =
    c.is_null.ensures
    ∙ begins c.args.schema.now c.in-Union.branches (Some c.in-Some.branch.now)
    (ap (λ s. (written s).begins_with_null) c.in-Union.is ∙ ap (λ (w : Written). w.begins_with_null) (fold_union written_of written_field c.in-Union.branches)) c.in-Some.ensures

pub returns-in-None : goal.returns-in-None
returns-in-None c =
    begins c.args.schema.now c.in-Union.branches None
    (ap (λ s. (written s).begins_with_null) c.in-Union.is ∙ ap (λ (w : Written). w.begins_with_null) (fold_union written_of written_field c.in-Union.branches)) c.in-None.ensures
