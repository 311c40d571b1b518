-- The union that a list means is read of it, by what is read of its values.
use Rattle.std.proofs.Common.{◌≡◌, ◌≢◌, ℕ, ◌+◌, ◌≤◌, List, [], ◌∷◌, ◌++◌, Ok, decimal, append_assoc, append-nil, refl}
use Rattle.std.proofs.Common.{sym, ap, ◌∙◌, arith}
use Rattle.words.specs.Reading.{map_value}
use Rattle.serde_json.specs.Data.{Data, array, Items}
use Rattle.schema_tree.specs.declared.schema.Schema.{Schema}
use Rattle.schema_tree.specs.declared.schema.Schema.TheVariants as schemas
use Rattle.avro_schema.specs.Refusal.{under}
use Rattle.schema_tree.specs.Tree.{depth, size}
use Rattle.schema_tree.specs.Measure.{size_of_branches}
use Rattle.avro_schema.specs.Member.{values_of}
use Rattle.avro_schema.specs.Defined.{Definitions, Seen}
use Rattle.avro_schema.specs.Parts.{schema_below}
use Rattle.avro_schema.specs.Reading.{Reader, branch_at, branches_at, union_at}
use Rattle.avro_schema.specs.Meaning.{IsNoUnion}
use Rattle.avro_schema.proofs.PartLaws.{schema_layer}
use Rattle.words.specs.Steps.{bind_only}
use Rattle.avro_schema.proofs.Steps.{count_only, met}
use Rattle.schema_tree.specs.TreeLaws.{depth-Union, size-Union, branches_cons}
use Rattle.avro_schema.proofs.MeansPart.{branch_only}
use Rattle.avro_schema.proofs.Only.{IsRead, AreBranchesRead, below_only, same_count}

-- no branch
pub no_branch_only : (scope : List ℕ) (names : Definitions) → AreBranchesRead scope names [] [] names
unfolding branches_at
no_branch_only scope names room count place before deep few =
    ap (λ (all : List Schema). Ok (all, met names count)) (sym (append-nil before))
    ∙ ap (λ (n : ℕ). Ok (before ++ [], met names n)) (omega arith)

-- one branch, and those behind it
pub one_branch_only : (scope : List ℕ) (names : Definitions) (value : Data) (values : List Data) (schema : Schema)
    (branches : List Schema) (between after : Definitions)
    → IsNoUnion value → IsRead scope names value schema between → AreBranchesRead scope between values branches after
    → AreBranchesRead scope names (value ∷ values) (schema ∷ branches) after
unfolding branches_at
one_branch_only scope names value values schema branches between after none is others room count place before deep few =
    let cons = branches_cons schema branches in
    bind_only (under (decimal place) (branch_at (schema_below room scope) (met names count) value)) _
    (schema, met between (count + size schema)) _
    (ap (under (decimal place)) (branch_only (schema_below room scope) (met names count) value none
    ∙ below_only scope names value schema between is room count (omega (arith, deep)) (omega (arith, few, cons))))
    (others room (count + size schema) (place + 1) (before ++ schema ∷ []) (omega (arith, deep))
    (omega (arith, few, cons))
    ∙ ap (λ (all : List Schema). Ok (all, met after (count + size schema + size_of_branches branches)))
    (append_assoc before (schema ∷ []) branches)
    ∙ ap (λ (n : ℕ). Ok (before ++ schema ∷ branches, met after n)) (omega (arith, cons)))

-- a union of values
values_only : (scope : List ℕ) (names : Definitions) (values : List Data) (branches : List Schema)
    (after : Definitions) → values ≢ [] → AreBranchesRead scope names values branches after
    → (room count : ℕ) → depth (schemas.Union branches) ≤ room → count + size (schemas.Union branches) ≤ 65536
    → union_at (schema_below room) scope room (met names count) values ≡ Ok
    (schemas.Union branches, met after (count + size (schemas.Union branches)))
values_only scope names [] branches after some are room count deep few = absurd (some refl)
values_only scope names (value ∷ values) branches after some are room count deep few =
    let deepest = depth-Union branches in
    let all = size-Union branches in
    bind_only _ _ (met names (count + 1)) _
    (count_only room 1 1 (met names count) (omega (arith, deep, deepest)) (omega (arith, few, all)))
    (ap (map_value (λ (read : List Schema × Seen). (schemas.Union read.0, read.1)))
    (are room (count + 1) 1 [] (omega (arith, deep, deepest)) (omega (arith, few, all)))
    ∙ same_count (schemas.Union branches) after (count + 1 + size_of_branches branches)
    (count + size (schemas.Union branches)) (omega (arith, all)))

-- a union of items
pub union_only : (scope : List ℕ) (names : Definitions) (items : Items) (branches : List Schema) (after : Definitions)
    → values_of items ≢ [] → AreBranchesRead scope names (values_of items) branches after
    → IsRead scope names (array items) (schemas.Union branches) after
union_only scope names items branches after some are room count deep few =
    ap (λ (r : Reader). r scope (met names count) (array items)) (schema_layer room)
    ∙ values_only scope names (values_of items) branches after some are room count deep few
