-- A pair of a header, read at its place, and known by that place.
use Rattle.std.proofs.Common.{◌≡◌, ℕ, ◌≤◌, true, false, cond, Bool, List, [], ◌∷◌, ◌++◌, ◌||◌, length, Ok, Option, Some, is_some, refl, sym, ap, subst, ◌∙◌, inl, inr}
use Rattle.std.specs.Str.{is_utf8, bytes_eq}
use Rattle.std.proofs.lemmas.Bool.{le-leb, cases_Bool}
use Rattle.std.proofs.lemmas.List.{map-append}
use Rattle.std.proofs.lemmas.List.Folds.{list_any-append}
use Rattle.std.proofs.lemmas.Slice.Eq.{bytes_eq-Decides}
use Rattle.avro_container.specs.Header.{Pair, has_key, item_at, key_at, pair_at}
use Rattle.avro_container.specs.Pairs.{item_there, bytes_in, pair_behind, pair_there, pairs_there, with_pair, IsKnown}

-- what is read at a place lies there
item_is : (input : List ℕ) (place : ℕ) (there : ℕ × ℕ) → place ≤ length input → item_at input place ≡ Ok there → item_there input place ≡ there
unfolding item_there
item_is input place there within read = rw (le-leb _ _ within, read) refl

-- the key that is read at a place is that of the pair there
pub key_is : (input : List ℕ) (place : ℕ) (key : ℕ × ℕ) → place ≤ length input → item_at input place ≡ Ok key
    → is_utf8 (bytes_in input key) ≡ true → (pair_there input place).0 ≡ bytes_in input key
unfolding pair_behind
key_is input place key within read text = rw (item_is input place key within read, text) refl

-- the pair that is read at a place is the one there
pair_is : (input : List ℕ) (place : ℕ) (key value : ℕ × ℕ) → place ≤ length input → item_at input place ≡ Ok key
    → is_utf8 (bytes_in input key) ≡ true → key.1 ≤ length input → item_at input key.1 ≡ Ok value → pair_there input place ≡ (bytes_in input key, bytes_in input value)
unfolding pair_behind
pair_is input place key value within read text behind valued =
    rw (item_is input place key within read, text, item_is input key.1 value behind valued) refl

-- a pair that is read goes behind those before it, if its key is new
pub pair_added : (pairs : List Pair) (input : List ℕ) (place : ℕ) (key value : ℕ × ℕ) → place ≤ length input → item_at input place ≡ Ok key
    → is_utf8 (bytes_in input key) ≡ true → key.1 ≤ length input → item_at input key.1 ≡ Ok value
    → pair_at pairs input place ≡ with_pair pairs (pair_there input place) place value.1
unfolding pair_at key_at
pair_added pairs input place key value within read text behind valued =
    rw (pair_is input place key value within read text behind valued) (elim (cases_Bool (has_key pairs (bytes_in input key))) [
      | inl known ↦ rw (read, text, known) refl
      | inr new ↦ rw (read, text, new, valued) refl
    ])

-- a test behind others that ends a list
or_last : (a b : Bool) → (a || (b || false)) ≡ cond b true a
or_last true true = refl
or_last true false = refl
or_last false true = refl
or_last false false = refl

-- whether there is a value, of one that was put over another
some_cond : {X : Type 0} (t : Bool) (x : X) (other : Option X) → is_some (cond t (Some x) other) ≡ cond t true (is_some other)
some_cond true x other = refl
some_cond false x other = refl

-- a set of the keys of pairs, and one more key, which is new
pub known_push : {X : Type 0} (pairs : List Pair) (pair : Pair) (bytes : List ℕ) (x : X) (before after : List ℕ → Option X) → pair.0 ≡ bytes
    → ((key : List ℕ) → is_some (before key) ≡ has_key pairs key) → ((key : List ℕ) → after key ≡ cond (bytes_eq bytes key) (Some x) (before key))
    → (key : List ℕ) → is_some (after key) ≡ has_key (pairs ++ pair ∷ []) key
known_push {X} pairs pair bytes x before after spelled known added key =
    ap is_some (added key) ∙ (some_cond (bytes_eq bytes key) x (before key)
    ∙ (ap (λ (k : Bool). cond (bytes_eq bytes key) true k) (known key)
    ∙ (ap (λ (b : List ℕ). cond (bytes_eq b key) true (has_key pairs key)) (sym spelled)
    ∙ sym (list_any-append (λ (p : Pair). bytes_eq p.0 key) pairs (pair ∷ []) ∙ or_last (has_key pairs key) (bytes_eq pair.0 key)))))

-- a set of the keys of pairs, and one that it has
pub known_stays : {X : Type 0} (pairs : List Pair) (bytes : List ℕ) (x : X) (before after : List ℕ → Option X) → has_key pairs bytes ≡ true
    → ((key : List ℕ) → is_some (before key) ≡ has_key pairs key) → ((key : List ℕ) → after key ≡ cond (bytes_eq bytes key) (Some x) (before key))
    → (key : List ℕ) → is_some (after key) ≡ has_key pairs key
known_stays {X} pairs bytes x before after stood known added key =
    ap is_some (added key) ∙ (some_cond (bytes_eq bytes key) x (before key)
    ∙ elim (cases_Bool (bytes_eq bytes key)) [
      | inl same ↦ rw same (sym (subst (λ (b : List ℕ). has_key pairs b ≡ true) ((bytes_eq-Decides bytes key).0 same) stood))
      | inr other ↦ rw other (known key)
    ])

-- the pair at a place more
pub known_more : {X : Type 0} (input old new : List ℕ) (place : ℕ) (bytes : List ℕ) (x : X) (before after : List ℕ → Option X) → IsKnown input (pairs_there input old) (λ key. is_some (before key))
    → new ≡ old ++ place ∷ [] → (pair_there input place).0 ≡ bytes → ((key : List ℕ) → after key ≡ cond (bytes_eq bytes key) (Some x) (before key)) → IsKnown input (pairs_there input new) (λ key. is_some (after key))
known_more {X} input old new place bytes x before after kept grown spelled added =
    let pairs : pairs_there input new ≡ pairs_there input old ++ pair_there input place ∷ [] = ap (pairs_there input) grown ∙ map-append (pair_there input) old (place ∷ []) in
    subst (λ (ps : List Pair). IsKnown input ps (λ key. is_some (after key))) (sym pairs) (record {
      short = kept.short;
      known = known_push (pairs_there input old) (pair_there input place) bytes x before after spelled kept.known added;
    })

-- no pair more
pub known_again : {X : Type 0} (input old new bytes : List ℕ) (x : X) (before after : List ℕ → Option X) → IsKnown input (pairs_there input old) (λ key. is_some (before key))
    → new ≡ old → is_some (before bytes) ≡ true → ((key : List ℕ) → after key ≡ cond (bytes_eq bytes key) (Some x) (before key)) → IsKnown input (pairs_there input new) (λ key. is_some (after key))
known_again {X} input old new bytes x before after kept same stood added =
    subst (λ (ps : List ℕ). IsKnown input (pairs_there input ps) (λ key. is_some (after key))) (sym same) (record {
      short = kept.short;
      known = known_stays (pairs_there input old) bytes x before after (sym (kept.known bytes) ∙ stood) kept.known added;
    })
