-- Unions: the texts of their branches are read again.
use Rattle.std.proofs.Common.{◌≡◌, ℕ, zero, suc, ◌+◌, ◌≤◌, max, true, false, not, ◌&&◌, List, [], ◌∷◌, ◌++◌, map}
use Rattle.std.proofs.Common.{flat_map, Some, Ok, decimal, option_map, option_and_then, refl, sym, ap, ap₂, ◌∙◌}
use Rattle.std.proofs.Common.{arith, append_assoc, append-nil}
use Rattle.std.proofs.lemmas.Bool.{and_parts, not-true, true≢false, false≢true}
use Rattle.std.proofs.lemmas.List.Sums.{sum_by-cons}
use Rattle.std.specs.List.{list_all, sum}
use Rattle.json.specs.Token.{Token}
use Rattle.json.specs.Json as json
use Rattle.json.specs.Tree as tree
use Rattle.serde_json.specs.Data.{Data, array, Items, no_items, item}
use Rattle.serde_json.specs.Read.{of_items}
use Rattle.words.specs.Reading.{◌>>=◌, map_value}
use Rattle.schema_tree.specs.declared.schema.Schema.{Schema}
use Rattle.schema_tree.specs.declared.schema.Schema.TheVariants as schemas
use Rattle.schema_tree.specs.declared.schema.Schema.TheOpen as open_schema
use Rattle.avro_schema.specs.Refusal.{under}
use Rattle.avro_schema.specs.Printing.{written, written_of, written_field, all_tokens}
use Rattle.avro_schema.specs.Printable.{Spelled, spelled, spelled_of, spelled_field, are_distinct, is_some_list}
use Rattle.avro_schema.specs.Printable.{levels_of}
use Rattle.schema_tree.specs.Tree.{depth, size, depth_of, size_of, number_of_field, largest}
use Rattle.schema_tree.specs.Ids.{all_true, has_ids, ids_of, ids_of_field}
use Rattle.avro_schema.specs.Defined.{Seen}
use Rattle.avro_schema.specs.Member.{values_of}
use Rattle.avro_schema.specs.Reading.{counted, branch_at, branches_at, union_at, schema_at}
use Rattle.schema_tree.specs.Equations.{fold_union}
use Rattle.schema_tree.specs.Inductions.{Each}
use Rattle.avro_schema.proofs.TakenLaws.{AreFree, parted, still_free, free_parts, keeps_then}
use Rattle.avro_schema.proofs.Known.{Reads, Known, IsKnown, known_by, counts, more_seen}

-- the names that schemas define
abbrev names_of : List Spelled → List (List ℕ)
names_of parts = flat_map (λ (part : Spelled). part.names) parts

-- ---- the branches of a union

-- branches: the JSON values that their texts are, and that they are read
record KnownBranches (branches : List Schema) : Type 0 where
  texts : json.Items
  values : Items
  tokens : all_tokens (map written branches) ++ Token.end_array ∷ [] ≡ tree.items_tokens texts
  numbers : tree.ItemsHaveNumbers texts
  levels : tree.items_depth texts ≤ levels_of (map spelled branches)
  data_is : of_items texts ≡ Some values
  some : is_some_list (values_of values) ≡ is_some_list (map spelled branches)
  reads : (room place : ℕ) (before : List Schema) (seen : Seen) → largest (map depth branches) ≤ room → seen.count + sum (map size branches) ≤ 65536
      → are_distinct (names_of (map spelled branches)) ≡ true → AreFree seen.names (names_of (map spelled branches))
      → Reads seen (names_of (map spelled branches)) (sum (map size branches)) (before ++ branches) (branches_at (schema_at room []) place before seen (values_of values))

-- no branch
no_branches : KnownBranches []
unfolding branches_at
no_branches =
    record {
      texts = json.no_items;
      values = no_items;
      tokens = refl;
      numbers = tt;
      levels = omega arith;
      data_is = refl;
      some = refl;
      reads = λ room place before seen deep large once free. record { after = seen; is = ap (λ l. Ok (l, seen)) (sym (append-nil before)); count = omega arith; keeps = λ asked other free. free };
    }

-- a branch, and those behind it
branches_step : (room place : ℕ) (before : List Schema) (seen : Seen) (value : Data) (values : List Data) (branch : Schema) (between : Seen) (branches : List Schema) (after : Seen) → branch_at (schema_at room []) seen value ≡ Ok (branch, between)
    → branches_at (schema_at room []) (place + 1) (before ++ branch ∷ []) between values ≡ Ok ((before ++ branch ∷ []) ++ branches, after) → branches_at (schema_at room []) place before seen (value ∷ values) ≡ Ok (before ++ branch ∷ branches, after)
unfolding branches_at
branches_step room place before seen value values branch between branches after first rest =
    ap (λ read. under (decimal place) read >>= λ branch. branches_at (schema_at room []) (place + 1) (before ++ branch.0 ∷ []) branch.1 values) first ∙ rest ∙ ap (λ l. Ok (l, after)) (append_assoc before (branch ∷ []) branches)

module _ (branch : Schema) (branches : List Schema) (k : Known branch (written branch) (spelled branch) (depth branch) (size branch)) (single : (spelled branch).is_union ≡ false) (more : KnownBranches branches) where
  branch_then : (room place : ℕ) (before : List Schema) (seen : Seen) → largest (map depth (branch ∷ branches)) ≤ room → seen.count + sum (map size (branch ∷ branches)) ≤ 65536
      → are_distinct (names_of (map spelled (branch ∷ branches))) ≡ true → AreFree seen.names (names_of (map spelled (branch ∷ branches)))
      → Reads seen (names_of (map spelled (branch ∷ branches))) (sum (map size (branch ∷ branches))) (before ++ branch ∷ branches) (branches_at (schema_at room []) place before seen (values_of (item k.value more.values)))
  branch_then room place before seen deep large once free =
      let mine = (spelled branch).names in
      let others = names_of (map spelled branches) in
      let parts = parted mine others once in
      let frees = free_parts seen.names mine others free in
      let total : sum (map size (branch ∷ branches)) ≡ size branch + sum (map size branches) = sum_by-cons (λ n. n) (size branch) (map size branches) in
      let deepest : largest (map depth (branch ∷ branches)) ≡ max (depth branch) (largest (map depth branches)) = refl in
      let one = k.reads room seen (omega (arith, deepest)) (omega (arith, total)) parts.first frees.0 in
      let rest = more.reads room (place + 1) (before ++ branch ∷ []) one.after (omega (arith, deepest)) (omega (arith, total, one.count)) parts.second (still_free seen.names one.after.names mine others one.keeps parts.apart frees.1) in
      record {
        after = rest.after;
        is = branches_step room place before seen k.value (values_of more.values) branch one.after branches rest.after (k.alone single (schema_at room []) seen ∙ one.is) rest.is;
        count = omega (arith, total, one.count, rest.count);
        keeps = keeps_then seen.names one.after.names rest.after.names mine others one.keeps rest.keeps;
      }

  one_branch : KnownBranches (branch ∷ branches)
  one_branch =
      record {
        texts = json.item k.text more.texts;
        values = item k.value more.values;
        tokens = append_assoc (written branch).tokens (all_tokens (map written branches)) (Token.end_array ∷ []) ∙ ap₂ (λ a b. a ++ b) k.tokens more.tokens;
        numbers = (k.numbers, more.numbers);
        levels = omega (arith, k.levels, more.levels);
        data_is = ap (λ read. option_and_then (λ d. option_map (item d) (of_items more.texts)) read) k.data_is ∙ ap (λ read. option_map (item k.value) read) more.data_is;
        some = refl;
        reads = branch_then;
      }

-- branches that can be spelled
known_branches : (branches : List Schema) → Each IsKnown branches → list_all (λ (branch : Spelled). branch.right && not branch.is_union) (map spelled branches) ≡ true → all_true (map has_ids branches) ≡ true → KnownBranches branches
known_branches [] each right fits = no_branches
known_branches (branch ∷ branches) each right fits =
    let rights = and_parts ((spelled branch).right && not (spelled branch).is_union) _ right in
    let mine = and_parts (spelled branch).right (not (spelled branch).is_union) rights.0 in
    let ids = and_parts (has_ids branch) _ fits in
    one_branch branch branches (each.0 mine.0 ids.0) (not-true (spelled branch).is_union mine.1) (known_branches branches each.1 rights.1 ids.1)

-- a union, which has a branch
union_is : (room : ℕ) (seen after : Seen) (values : List Data) → is_some_list values ≡ true → counted (suc room) 1 1 seen ≡ Ok after
    → union_at (schema_at room) [] (suc room) seen values ≡ map_value (λ branches. (schemas.Union branches.0, branches.1)) (branches_at (schema_at room []) 1 [] after values)
union_is room seen after [] some counted_is = absurd (false≢true some)
union_is room seen after (value ∷ values) some counted_is =
    ap (λ read. read >>= λ after. map_value (λ branches. (schemas.Union branches.0, branches.1)) (branches_at (schema_at room []) 1 [] after (value ∷ values))) counted_is

module _ (branches : List Schema) (k : KnownBranches branches) (some : is_some_list (map spelled branches) ≡ true) where
  union_room : (room : ℕ) (seen : Seen) → suc (largest (map depth branches)) ≤ room → seen.count + suc (sum (map size branches)) ≤ 65536
      → are_distinct (names_of (map spelled branches)) ≡ true → AreFree seen.names (names_of (map spelled branches))
      → Reads seen (names_of (map spelled branches)) (suc (sum (map size branches))) (schemas.Union branches) (schema_at room [] seen (array k.values))
  unfolding schema_at
  union_room zero seen deep large once free = absurd (omega arith)
  union_room (suc room) seen deep large once free =
      let after = more_seen seen 1 in
      let inner = k.reads room 1 [] after (omega arith) (omega arith) once free in
      record {
        after = inner.after;
        is = union_is room seen after (values_of k.values) (k.some ∙ some) (counts (suc room) 1 1 seen (omega arith) (omega arith)) ∙ ap (map_value (λ branches. (schemas.Union branches.0, branches.1))) inner.is;
        count = omega (arith, inner.count);
        keeps = inner.keeps;
      }

  union_case : Known (schemas.Union branches) (written_of (open_schema.Union (map written branches))) (spelled_of (open_schema.Union (map spelled branches))) (suc (largest (map depth branches))) (suc (sum (map size branches)))
  union_case =
      record {
        text = json.array k.texts;
        value = array k.values;
        tokens = ap (λ l. Token.begin_array ∷ l) k.tokens;
        numbers = k.numbers;
        levels = omega (arith, k.levels);
        data_is = ap (option_map array) k.data_is;
        alone = λ single. absurd (true≢false single);
        reads = union_room;
      }

pub union_known : (branches : List Schema) → Each IsKnown branches → IsKnown (schemas.Union branches)
union_known branches each =
    known_by (schemas.Union branches) (written_of (open_schema.Union (map written branches))) (spelled_of (open_schema.Union (map spelled branches))) (suc (largest (map depth branches))) (suc (sum (map size branches))) (all_true (map has_ids branches))
    (fold_union written_of written_field branches) (fold_union spelled_of spelled_field branches) (fold_union depth_of number_of_field branches) (fold_union size_of number_of_field branches) (fold_union ids_of ids_of_field branches)
    (λ right fits. let parts = and_parts (is_some_list (map spelled branches)) _ right in union_case branches (known_branches branches each parts.1 fits) parts.0)
