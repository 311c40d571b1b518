-- Texts of items that a loop puts, in order.
use Rattle.std.proofs.Common.{◌≡◌, ℕ, ◌+◌, ◌<◌, ◌≤◌, List, [], ◌∷◌, ◌++◌, length, take, All, sym, ap, subst, ◌∙◌}
use Rattle.std.proofs.Common.{append_assoc}
use Rattle.std.specs.Prelude.{slice_index_or}
use Rattle.std.specs.List.{flat_map}
use Rattle.std.proofs.lemmas.Grind.{flat_map-append}
use Rattle.std.proofs.lemmas.List.{append-nil, take_all, take_more}
use Rattle.std.proofs.lemmas.List.Elements.{All-nil, All-more}

-- the texts of the first items stand after what was there, and each of those items is such
pub record ArePut {A : Type 0} (text : A → List ℕ) (Such : A → Type 0) (items : List A) (i : ℕ) (old new : List ℕ)
    : Type 0 where
  pub so_far : new ≡ old ++ flat_map text (take i items)
  pub each : All Such (take i items)

-- before the first item
pub none_put : {A : Type 0} (text : A → List ℕ) (Such : A → Type 0) (items : List A) (old : List ℕ)
    → ArePut text Such items 0 old old
none_put text Such items old = record { so_far = sym (append-nil old); each = All-nil Such }

-- one more item
pub next_put : {A : Type 0} (text : A → List ℕ) (Such : A → Type 0) (items : List A) (i : ℕ)
    (old between new : List ℕ) (item : A)
    → i < length items → item ≡ slice_index_or items i item → ArePut text Such items i old between
    → new ≡ between ++ text item → Such item → ArePut text Such items (i + 1) old new
next_put text Such items i old between new item lt is put more such =
    let before = flat_map text (take i items) in
    let longer : take (i + 1) items ≡ take i items ++ item ∷ [] =
    take_more items i item lt ∙ ap (λ x. take i items ++ x ∷ []) (sym is) in
    let texts : flat_map text (take (i + 1) items) ≡ flat_map text (take i items) ++ text item =
    ap (flat_map text) longer ∙ flat_map-append text (take i items) (item ∷ [])
    ∙ ap (λ (x : List ℕ). before ++ x) (append-nil (text item)) in
    let behind : between ++ text item ≡ old ++ (before ++ text item) =
    ap (λ (x : List ℕ). x ++ text item) put.so_far ∙ append_assoc old before (text item) in
    record {
      so_far = more ∙ behind ∙ ap (λ (x : List ℕ). old ++ x) (sym texts);
      each = All-more Such items i item lt put.each (subst Such is such);
    }

-- after the last item
pub all_put : {A : Type 0} (text : A → List ℕ) (Such : A → Type 0) (items : List A) (i : ℕ) (old new : List ℕ)
    → length items ≤ i → ArePut text Such items i old new → (new ≡ old ++ flat_map text items) × All Such items
all_put text Such items i old new le put =
    let all = take_all i items le in
    (put.so_far ∙ ap (λ x. old ++ flat_map text x) all, subst (All Such) all put.each)
