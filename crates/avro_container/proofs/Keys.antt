-- The pairs of a header so far: keys that are text, and no key twice.
use Rattle.std.proofs.Common.{◌≡◌, ℕ, false, List, [], ◌∷◌, ◌++◌, length, All, inl, inr, refl, sym, ◌∙◌}
use Rattle.std.specs.Str.{bytes_eq, IsUtf8}
use Rattle.std.proofs.lemmas.Bool.{cases_Bool, both_ways, or_parts, or_from}
use Rattle.std.proofs.lemmas.List.{take_at}
use Rattle.std.proofs.lemmas.List.Elements.{All-nil, All-head, All-tail, All-push, All-take}
use Rattle.std.proofs.lemmas.List.Folds.{list_any-append}
use Rattle.std.proofs.lemmas.Slice.Eq.{bytes_eq-Decides}
use Rattle.avro_container.specs.Header.{Pair, has_key}
use Rattle.avro_container.specs.Format.{HasDistinctKeys}

-- pairs that a header may begin with
pub record IsSoFar (pairs : List Pair) : Type 0 where
  pub texts : All (λ pair. IsUtf8 pair.0) pairs
  pub distinct : HasDistinctKeys pairs

-- another is another both ways
turned : (a b : List ℕ) → bytes_eq a b ≡ false → bytes_eq b a ≡ false
turned a b other =
    elim (cases_Bool (bytes_eq b a)) [
      | inl same ↦ absurd (both_ways (bytes_eq a b) other ((bytes_eq-Decides a b).1 (sym ((bytes_eq-Decides b a).0 same))))
      | inr differ ↦ differ
    ]

-- a pair with a new key at the end
distinct_push : (pairs : List Pair) (p : Pair) → HasDistinctKeys pairs → has_key pairs p.0 ≡ false → HasDistinctKeys (pairs ++ p ∷ [])
distinct_push [] p distinct new = (refl, tt)
distinct_push (q ∷ pairs) p distinct new =
    let parts = or_parts (bytes_eq q.0 p.0) (has_key pairs p.0) new in
    let here : has_key (pairs ++ p ∷ []) q.0 ≡ false = list_any-append (λ (x : Pair). bytes_eq x.0 q.0) pairs (p ∷ []) ∙ or_from (has_key pairs q.0) (has_key (p ∷ []) q.0) distinct.0 (or_from (bytes_eq p.0 q.0) false (turned q.0 p.0 parts.0) refl) in
    (here, distinct_push pairs p distinct.1 parts.1)

-- the key of a later pair is new
distinct_new : (pairs : List Pair) (p : Pair) (more : List Pair) → HasDistinctKeys (pairs ++ p ∷ more) → has_key pairs p.0 ≡ false
distinct_new [] p more distinct = refl
distinct_new (q ∷ pairs) p more distinct =
    let parts = or_parts (has_key pairs q.0) (has_key (p ∷ more) q.0) (sym (list_any-append (λ (x : Pair). bytes_eq x.0 q.0) pairs (p ∷ more)) ∙ distinct.0) in
    let here = or_parts (bytes_eq p.0 q.0) (has_key more q.0) parts.1 in
    or_from (bytes_eq q.0 p.0) (has_key pairs p.0) (turned p.0 q.0 here.0) (distinct_new pairs p more distinct.1)

-- the pairs before others
distinct_front : (pairs more : List Pair) → HasDistinctKeys (pairs ++ more) → HasDistinctKeys pairs
distinct_front [] more distinct = tt
distinct_front (q ∷ pairs) more distinct =
    let parts = or_parts (has_key pairs q.0) (has_key more q.0) (sym (list_any-append (λ (x : Pair). bytes_eq x.0 q.0) pairs more) ∙ distinct.0) in
    (parts.0, distinct_front pairs more distinct.1)

-- the key of a later pair is text
text_there : (pairs : List Pair) (p : Pair) (more : List Pair) → All (λ pair. IsUtf8 pair.0) (pairs ++ p ∷ more) → IsUtf8 p.0
text_there [] p more all = All-head (λ (pair : Pair). IsUtf8 pair.0) p more all
text_there (q ∷ pairs) p more all = text_there pairs p more (All-tail (λ (pair : Pair). IsUtf8 pair.0) q (pairs ++ p ∷ more) all)

-- no pairs
pub so_far_none : IsSoFar []
so_far_none = record { texts = All-nil (λ (pair : Pair). IsUtf8 pair.0); distinct = tt }

-- one more pair
pub so_far_push : (pairs : List Pair) (p : Pair) → IsSoFar pairs → IsUtf8 p.0 → has_key pairs p.0 ≡ false → IsSoFar (pairs ++ p ∷ [])
so_far_push pairs p kept text new = record {
  texts = All-push (λ (pair : Pair). IsUtf8 pair.0) pairs p kept.texts text;
  distinct = distinct_push pairs p kept.distinct new;
}

-- the pairs before others
pub so_far_front : (pairs more : List Pair) → IsSoFar (pairs ++ more) → IsSoFar pairs
so_far_front pairs more kept =
    let texts = All-take (λ (pair : Pair). IsUtf8 pair.0) (length pairs) (pairs ++ more) kept.texts in
    record { texts = rw (take_at pairs more (length pairs) refl) at texts; distinct = distinct_front pairs more kept.distinct }

-- a later pair
pub so_far_next : (pairs : List Pair) (p : Pair) (more : List Pair) → IsSoFar (pairs ++ p ∷ more) → IsUtf8 p.0 × (has_key pairs p.0 ≡ false)
so_far_next pairs p more kept = (text_there pairs p more kept.texts, distinct_new pairs p more kept.distinct)
