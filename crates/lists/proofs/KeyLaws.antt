-- Lists whose items have keys: one more item at the end.
use Rattle.std.proofs.Common.{◌≡◌, ◌≢◌, ℕ, Bool, true, false, cond, ◌||◌, List, [], ◌∷◌, ◌++◌, get_or, refl, sym, ap}
use Rattle.std.proofs.Common.{subst, ◌∙◌, arith}
use Rattle.std.specs.Str.{bytes_eq}
use Rattle.std.proofs.lemmas.Bool.{false≢true}
use Rattle.std.proofs.lemmas.List.Folds.{list_any-append, list_any_at}
use Rattle.std.proofs.lemmas.List.Quantifiers.{all_pairs_push}
use Rattle.std.proofs.lemmas.Slice.Eq.{bytes_eq-Decides}
use Rattle.lists.specs.Keys.{has_key, AreDistinctBy, IsKeyed}

-- a test behind others that ends a list
or_last : (a b : Bool) → (a || (b || false)) ≡ cond b true a
or_last true true = refl
or_last true false = refl
or_last false true = refl
or_last false false = refl

-- an item at the end adds its key
pub has_key-push : {A : Type 0} (key_of : A → List ℕ) (items : List A) (item : A) (key : List ℕ) → has_key key_of (items ++ item ∷ []) key ≡ cond (bytes_eq (key_of item) key) true (has_key key_of items key)
has_key-push {A} key_of items item key = list_any-append (λ (other : A). bytes_eq (key_of other) key) items (item ∷ []) ∙ or_last (has_key key_of items key) (bytes_eq (key_of item) key)

-- items without one key twice, and one more whose key none of them has
pub distinct_push : {A : Type 0} (key_of : A → List ℕ) (items : List A) (item : A) → AreDistinctBy key_of items → has_key key_of items (key_of item) ≡ false → AreDistinctBy key_of (items ++ item ∷ [])
distinct_push {A} key_of items item distinct new =
    all_pairs_push (λ (one later : A). key_of one ≢ key_of later) items item distinct (λ k d within same.
    false≢true (sym new ∙ list_any_at (λ (one : A). bytes_eq (key_of one) (key_of item)) items k d within ((bytes_eq-Decides (key_of (get_or items k d)) (key_of item)).1 same)))

-- no item
pub distinct_none : {A : Type 0} (key_of : A → List ℕ) → AreDistinctBy key_of []
distinct_none key_of = λ i j d before within. absurd (omega arith)

-- the set and the items, once the item's key was put into the set, and the item to the end
pub keyed_push : {A : Type 0} (key_of : A → List ℕ) (items same new : List A) (item : A) (bytes : List ℕ) (before after : List ℕ → Bool) → IsKeyed key_of items before → has_key key_of items (key_of item) ≡ false
    → ((key : List ℕ) → after key ≡ cond (bytes_eq bytes key) true (before key)) → bytes ≡ key_of item → same ≡ items → new ≡ same ++ item ∷ [] → IsKeyed key_of new after
keyed_push {A} key_of items same new item bytes before after keyed fresh added spelled kept grown =
    let whole : (items ++ item ∷ []) ≡ new = sym (grown ∙ ap (λ (xs : List A). xs ++ item ∷ []) kept) in
    subst (λ (xs : List A). IsKeyed key_of xs after) whole (record {
      known = λ key. added key ∙ (ap (λ (known : Bool). cond (bytes_eq bytes key) true known) (keyed.known key) ∙ (ap (λ (x : List ℕ). cond (bytes_eq x key) true (has_key key_of items key)) spelled ∙ sym (has_key-push key_of items item key)));
      distinct = distinct_push key_of items item keyed.distinct fresh;
    })

-- the set and the items, if both know what they knew
pub keyed_same : {A : Type 0} (key_of : A → List ℕ) (items new : List A) (before after : List ℕ → Bool) → IsKeyed key_of items before → new ≡ items → ((key : List ℕ) → after key ≡ before key) → IsKeyed key_of new after
keyed_same {A} key_of items new before after keyed kept same =
    subst (λ (xs : List A). IsKeyed key_of xs after) (sym kept) (record { known = λ key. same key ∙ keyed.known key; distinct = keyed.distinct })
