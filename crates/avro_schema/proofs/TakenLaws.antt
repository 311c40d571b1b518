-- Definitions: a plain one has no namespace, and what is taken after a definition.
use Rattle.std.proofs.Common.{◌≡◌, ℕ, ◌==◌, Bool, true, false, not, ◌||◌, List, [], ◌∷◌, ◌++◌, Option, Some, cond}
use Rattle.std.proofs.Common.{is_some, refl, sym, ap, ◌∙◌, subst}
use Rattle.std.proofs.lemmas.Bool.{true≢false, both_ways, false_from_ne_true, eqb-true, and_parts, or_parts, or_from}
use Rattle.std.proofs.lemmas.Bool.{or_left, not-true}
use Rattle.std.proofs.lemmas.List.Folds.{list_any-append}
use Rattle.std.proofs.lemmas.Slice.Eq.{bytes_eq-Decides}
use Rattle.std.proofs.lemmas.Map.Text.{is_eq-slice_cmp}
use Rattle.std.specs.List.{list_any, list_all}
use Rattle.std.specs.Map.{lookup}
use Rattle.std.specs.BTreeMap.{insert_entry}
use Rattle.std.proofs.Common.{Ordering, Less, Equal, Greater}
use Rattle.std.specs.Ordering.{nat_cmp, match_ordering, is_eq}
use Rattle.std.specs.Cmp.Lexicographic.{slice_cmp}
use Rattle.std.specs.Str.{bytes_eq}
use Rattle.schema_tree.specs.declared.schema.Schema.{Schema}
use Rattle.avro_schema.specs.Printable.{begins_name, goes_on_name, is_avro_name, are_distinct}
use Rattle.avro_schema.specs.Defined.{Definitions, is_taken, with_name}
use Rattle.schema_tree.specs.Names.{has_dot, namespace_of}

-- ---- plain names

-- no byte of a name is a dot
no_dot : (byte : ℕ) → goes_on_name byte ≡ true → (byte == 46) ≡ false
no_dot byte plain = false_from_ne_true (byte == 46) (λ same. true≢false (sym plain ∙ ap goes_on_name (eqb-true byte 46 same)))

no_dots : (name : List ℕ) → list_all goes_on_name name ≡ true → has_dot name ≡ false
no_dots [] plain = refl
no_dots (byte ∷ name) plain =
    let parts = and_parts (goes_on_name byte) (list_all goes_on_name name) plain in
    or_from (byte == 46) (has_dot name) (no_dot byte parts.0) (no_dots name parts.1)

-- a plain name has no namespace
pub no_namespace : (name : List ℕ) → is_avro_name name ≡ true → namespace_of name ≡ []
unfolding namespace_of
no_namespace [] plain = refl
no_namespace (byte ∷ rest) plain =
    let parts = and_parts (begins_name byte) (list_all goes_on_name rest) plain in
    let none : has_dot (byte ∷ rest) ≡ false = or_from (byte == 46) (has_dot rest) (no_dot byte (or_left (begins_name byte) _ parts.0)) (no_dots rest parts.1) in
    rw none refl

-- ---- what is taken

-- names differ both ways
pub other_way : (first second : List ℕ) → bytes_eq first second ≡ false → bytes_eq second first ≡ false
other_way first second apart =
    false_from_ne_true (bytes_eq second first) (λ same. both_ways (bytes_eq first second) apart ((bytes_eq-Decides first second).1 (sym ((bytes_eq-Decides second first).0 same))))

module _ (name asked : List ℕ) (schema : Option Schema) (apart : bytes_eq asked name ≡ false) where
  known_at : (order : Ordering) (first : List ℕ) (known : Option Schema) (names : Definitions) → slice_cmp nat_cmp name first ≡ order
      → lookup (bytes_eq asked) (insert_entry (slice_cmp nat_cmp) names name schema) ≡ lookup (bytes_eq asked) names
      → lookup (bytes_eq asked) (match_ordering order ((name, schema) ∷ (first, known) ∷ names) ((first, schema) ∷ names) ((first, known) ∷ insert_entry (slice_cmp nat_cmp) names name schema))
      ≡ lookup (bytes_eq asked) ((first, known) ∷ names)
  known_at Less first known names is later = rw apart refl
  known_at Equal first known names is later =
      let same : name ≡ first = (bytes_eq-Decides name first).0 (sym (is_eq-slice_cmp name first) ∙ ap is_eq is) in
      let differs : bytes_eq asked first ≡ false = subst (λ other. bytes_eq asked other ≡ false) same apart in
      rw differs refl
  known_at Greater first known names is later = ap (λ found. cond (bytes_eq asked first) (Some known) found) later

  -- of other names the same is known
  known_other : (names : Definitions) → lookup (bytes_eq asked) (insert_entry (slice_cmp nat_cmp) names name schema) ≡ lookup (bytes_eq asked) names
  known_other [] = rw apart refl
  known_other ((first, known) ∷ names) = known_at (slice_cmp nat_cmp name first) first known names refl (known_other names)

  -- other names are taken where they were
  pub taken_other : (names : Definitions) → is_taken (with_name names name schema) asked ≡ is_taken names asked
  taken_other names = ap is_some (known_other names)

-- ---- names that come once

-- none of the names is taken
abbrev pub AreFree : Definitions → List (List ℕ) → Type 0
AreFree taken names = list_any (λ name. is_taken taken name) names ≡ false

-- what is free before, and none of these names, is free after
abbrev pub Keeps : Definitions → List (List ℕ) → Definitions → Type 0
Keeps before names after = (asked : List ℕ) → list_any (λ name. bytes_eq name asked) names ≡ false → is_taken before asked ≡ false → is_taken after asked ≡ false

either_free : {X : Type 0} (f g : X → Bool) (xs : List X) → list_any f xs ≡ false → list_any g xs ≡ false → list_any (λ x. f x || g x) xs ≡ false
either_free f g [] h k = refl
either_free f g (x ∷ xs) h k =
    let first = or_parts (f x) (list_any f xs) h in
    let second = or_parts (g x) (list_any g xs) k in
    or_from (f x || g x) _ (or_from (f x) (g x) first.0 second.0) (either_free f g xs first.1 second.1)

-- what is in neither of two lists of distinct names
pub record Parted (front back : List (List ℕ)) : Type 0 where
  pub first : are_distinct front ≡ true
  pub second : are_distinct back ≡ true
  pub apart : list_any (λ asked. list_any (λ name. bytes_eq name asked) front) back ≡ false

none_any : (second : List (List ℕ)) → list_any (λ asked. false) second ≡ false
none_any [] = refl
none_any (name ∷ second) = none_any second

pub parted : (first second : List (List ℕ)) → are_distinct (first ++ second) ≡ true → Parted first second
parted [] second once = record { first = refl; second = once; apart = none_any second }
parted (name ∷ first) second once =
    let parts = and_parts (not (list_any (bytes_eq name) (first ++ second))) (are_distinct (first ++ second)) once in
    let more = parted first second parts.1 in
    let other = or_parts (list_any (bytes_eq name) first) (list_any (bytes_eq name) second) (sym (list_any-append (bytes_eq name) first second) ∙ not-true _ parts.0) in
    record {
      first = and_from_parts name first other.0 more.first;
      second = more.second;
      apart = either_free (λ asked. bytes_eq name asked) (λ asked. list_any (λ other. bytes_eq other asked) first) second other.1 more.apart;
    }
  where
    and_from_parts : (name : List ℕ) (names : List (List ℕ)) → list_any (bytes_eq name) names ≡ false → are_distinct names ≡ true → are_distinct (name ∷ names) ≡ true
    and_from_parts name names new once = rw new once

-- free names are still free after others were defined
pub still_free : (before after : Definitions) (first second : List (List ℕ)) → Keeps before first after → list_any (λ asked. list_any (λ name. bytes_eq name asked) first) second ≡ false → AreFree before second → AreFree after second
still_free before after first [] keeps apart free = refl
still_free before after first (asked ∷ second) keeps apart free =
    let other = or_parts (list_any (λ name. bytes_eq name asked) first) _ apart in
    let mine = or_parts (is_taken before asked) _ free in
    or_from (is_taken after asked) _ (keeps asked other.0 mine.0) (still_free before after first second keeps other.1 mine.1)

-- the free names of two lists
pub free_parts : (before : Definitions) (first second : List (List ℕ)) → AreFree before (first ++ second) → AreFree before first × AreFree before second
free_parts before first second free = or_parts _ _ (sym (list_any-append (λ name. is_taken before name) first second) ∙ free)

-- what a definition keeps
pub keeps_defined : (names : Definitions) (name : List ℕ) (schema : Option Schema) → Keeps names (name ∷ []) (with_name names name schema)
keeps_defined names name schema asked other free =
    taken_other name asked schema (other_way name asked (or_parts (bytes_eq name asked) false other).0) names ∙ free

-- what two steps keep
pub keeps_then : (before between after : Definitions) (first second : List (List ℕ)) → Keeps before first between → Keeps between second after → Keeps before (first ++ second) after
keeps_then before between after first second one two asked other free =
    let parts = or_parts _ _ (sym (list_any-append (λ name. bytes_eq name asked) first second) ∙ other) in
    two asked parts.1 (one asked parts.0 free)
