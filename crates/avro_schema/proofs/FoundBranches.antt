-- What is read of a list is a union of the branches that its values mean.
use Rattle.std.proofs.Common.{◌≡◌, ◌≢◌, ℕ, ◌+◌, ◌≤◌, List, [], ◌∷◌, ◌++◌, Ok, decimal, append_assoc, append-nil, sym}
use Rattle.std.proofs.Common.{subst, ◌∙◌, arith}
use Rattle.serde_json.specs.Data.{Data, array, Items}
use Rattle.schema_tree.specs.declared.schema.Schema.{Schema}
use Rattle.schema_tree.specs.declared.schema.Schema.TheVariants as schemas
use Rattle.avro_schema.specs.Refusal.{under}
use Rattle.schema_tree.specs.Measure.{depth_of_branches, size_of_branches}
use Rattle.avro_schema.specs.Member.{values_of}
use Rattle.avro_schema.specs.Defined.{Seen}
use Rattle.avro_schema.specs.Reading.{Reader, counted, branch_at, branches_at, union_at}
use Rattle.avro_schema.specs.Meaning.{union, AreBranches, no_branch, branch, IsNoUnion}
use Rattle.words.specs.Steps.{bind_then, map_then, ok_is}
use Rattle.avro_schema.proofs.Steps.{count_then, more, under_ok}
use Rattle.schema_tree.specs.TreeLaws.{depth-Union, size-Union, branches_cons}
use Rattle.avro_schema.proofs.MeansPart.{branch_then}
use Rattle.avro_schema.proofs.Found.{Found, Finds}

-- branches that were read stand behind those before
pub record BranchesFound (room : ℕ) (scope : List ℕ) (before : List Schema) (seen : Seen) (values : List Data)
    (taken : List Schema × Seen) : Type 0 where
  pub branches : List Schema
  pub all_is : taken.0 ≡ before ++ branches
  pub are : AreBranches scope seen.names values branches taken.1.names
  pub count : taken.1.count ≡ seen.count + size_of_branches branches
  pub deep : 1 + depth_of_branches branches ≤ room
  pub few : taken.1.count ≤ 65536

-- with one more at the front
branch_before : (room : ℕ) (scope : List ℕ) (before : List Schema) (seen : Seen) (value : Data) (values : List Data)
    (read : Schema × Seen) (taken : List Schema × Seen)
    → IsNoUnion value → Found 1 room scope seen value read
    → BranchesFound room scope (before ++ read.0 ∷ []) read.1 values taken
    → BranchesFound room scope before seen (value ∷ values) taken
branch_before room scope before seen value values read taken none found others = record {
  branches = read.0 ∷ others.branches;
  all_is = others.all_is ∙ append_assoc before (read.0 ∷ []) others.branches;
  are = branch scope seen.names value values read.0 others.branches read.1.names taken.1.names none found.means
      others.are;
  count = omega (arith, others.count, found.count, branches_cons read.0 others.branches);
  deep = omega (arith, found.deep, others.deep);
  few = others.few;
}

-- values that are read are branches
pub branches_found : (room : ℕ) (schema_in : Reader) → Finds 1 room schema_in → (scope : List ℕ) (place : ℕ)
    (before : List Schema) (seen : Seen) (values : List Data) (taken : List Schema × Seen) → 1 ≤ room
    → seen.count ≤ 65536
    → branches_at (schema_in scope) place before seen values ≡ Ok taken
    → BranchesFound room scope before seen values taken
unfolding branches_at
branches_found room schema_in finds scope place before seen [] taken level few read =
    let found : BranchesFound room scope before seen [] (before, seen) = record {
      branches = [];
      all_is = sym (append-nil before);
      are = no_branch scope seen.names;
      count = omega arith;
      deep = omega arith;
      few = few;
    } in
    subst (BranchesFound room scope before seen []) (ok_is (before, seen) taken read) found
branches_found room schema_in finds scope place before seen (value ∷ values) taken level few read =
    bind_then (under (decimal place) (branch_at (schema_in scope) seen value)) _ taken read (λ first first_is rest.
    branch_then (schema_in scope) seen value first
    (under_ok (decimal place) (branch_at (schema_in scope) seen value) first first_is) (λ none value_is.
    let found : Found 1 room scope seen value first = finds scope seen value first value_is in
    branch_before room scope before seen value values first taken none found
    (branches_found room schema_in finds scope (place + 1) (before ++ first.0 ∷ []) first.1 values taken level
    found.few rest)))

-- a list that is read has branches, and it is counted
union_then : {P : Type 0} (room : ℕ) (schema_in : Reader) (scope : List ℕ) (seen : Seen) (values : List Data)
    (taken : Schema × Seen) → union_at schema_in scope room seen values ≡ Ok taken
    → (values ≢ [] → 1 ≤ room → seen.count + 1 ≤ 65536 → (all : List Schema × Seen)
    → branches_at (schema_in scope) 1 [] (more seen 1) values ≡ Ok all → (schemas.Union all.0, all.1) ≡ taken → P)
    → P
union_then room schema_in scope seen [] taken read go = absurd cc
union_then room schema_in scope seen (value ∷ values) taken read go =
    bind_then (counted room 1 1 seen) _ taken read (λ after counts rest.
    map_then (λ (all : List Schema × Seen). (schemas.Union all.0, all.1))
    (branches_at (schema_in scope) 1 [] after (value ∷ values)) taken rest (λ all are done.
    count_then room 1 1 seen after counts (λ level few grown.
    go (λ none. absurd cc) level few all
    (subst (λ (s : Seen). branches_at (schema_in scope) 1 [] s (value ∷ values) ≡ Ok all) (sym grown) are) done)))

-- branches are a union
union_of : (room : ℕ) (scope : List ℕ) (seen : Seen) (items : Items) (all : List Schema × Seen) → values_of items ≢ []
    → BranchesFound room scope [] (more seen 1) (values_of items) all
    → Found 0 room scope seen (array items) (schemas.Union all.0, all.1)
union_of room scope seen items all some found =
    let whole : Found 0 room scope seen (array items) (schemas.Union found.branches, all.1) = record {
      means = union scope seen.names items found.branches all.1.names some found.are;
      count = omega (arith, found.count, size-Union found.branches);
      deep = omega (arith, found.deep, depth-Union found.branches);
      few = found.few;
    } in
    subst (λ (branches : List Schema). Found 0 room scope seen (array items) (schemas.Union branches, all.1))
    (sym found.all_is) whole

-- a list that is read is a union
pub union_found : (room : ℕ) (schema_in : Reader) → Finds 1 room schema_in → (scope : List ℕ) (seen : Seen)
    (items : Items) (taken : Schema × Seen) → union_at schema_in scope room seen (values_of items) ≡ Ok taken
    → Found 0 room scope seen (array items) taken
union_found room schema_in finds scope seen items taken read =
    union_then room schema_in scope seen (values_of items) taken read (λ some level few all are done.
    subst (Found 0 room scope seen (array items)) done
    (union_of room scope seen items all some
    (branches_found room schema_in finds scope 1 [] (more seen 1) (values_of items) all level few are)))
