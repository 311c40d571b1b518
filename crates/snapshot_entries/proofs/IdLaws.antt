-- Ids that are distinct from left to right: no id is among those after it.
use Rattle.std.proofs.Common.{◌≡◌, ℤ, List, [], ◌∷◌, Bool, true, false, not, ◌&&◌, ◌||◌, Option, Some, None, is_some}
use Rattle.std.proofs.Common.{refl, ap, ◌∙◌}
use Rattle.std.proofs.lemmas.Cmp.{int_eq_equiv}
use Rattle.std.specs.Ordering.{int_eq}
use Rattle.serde_json.specs.Data.{Items, no_items, item}
use Rattle.serde_json.specs.Find.{as_object}
use Rattle.snapshot_entries.specs.Ids.{is_new, distinct_after}
use Rattle.snapshot_entries.specs.List.{are_objects, id_of, with_id, ids_of, has_id, are_apart, are_distinct}

-- none of the ids was seen
abbrev are_new : List ℤ → List ℤ → Bool
are_new seen [] = true
are_new seen (id ∷ ids) = not (has_id seen id) && are_new seen ids

new_step : (same here later rest : Bool)
    → (not (same || here) && (not later && rest)) ≡ (not (same || later) && (not here && rest))
new_step true here later rest = refl
new_step false true true rest = refl
new_step false true false rest = refl
new_step false false true rest = refl
new_step false false false rest = refl

-- one more was seen: it is none of them, and none of them was seen before
new_after : (id : ℤ) (seen ids : List ℤ) → are_new (id ∷ seen) ids ≡ (not (has_id ids id) && are_new seen ids)
new_after id seen [] = refl
new_after id seen (other ∷ ids) =
    ap (λ (b : Bool). not (int_eq id other || has_id seen other) && b) (new_after id seen ids)
    ∙ new_step (int_eq id other) (has_id seen other) (has_id ids id) (are_new seen ids)
    ∙ ap (λ (b : Bool). not (b || has_id ids id) && (not (has_id seen other) && are_new seen ids))
    (int_eq_equiv.symm id other)

-- none was seen at first
new_at_first : (ids : List ℤ) → are_new [] ids ≡ true
new_at_first [] = refl
new_at_first (id ∷ ids) = new_at_first ids

none_step : (object objects new apart : Bool)
    → (object && (true && (objects && (new && apart)))) ≡ ((object && objects) && (new && apart))
none_step true objects new apart = refl
none_step false objects new apart = refl

some_step : (object unseen objects later new apart : Bool)
    → (object && (unseen && (objects && ((later && new) && apart))))
    ≡ ((object && objects) && ((unseen && new) && (later && apart)))
some_step false unseen objects later new apart = refl
some_step true true true true new apart = refl
some_step true true true false true apart = refl
some_step true true true false false apart = refl
some_step true true false later new apart = refl
some_step true false true later new apart = refl
some_step true false false later new apart = refl

-- an item, with its id if there is one
id_step : (object objects : Bool) (seen ids : List ℤ) (id : Option ℤ)
    → (object && (is_new seen id && (objects && (are_new (with_id id seen) ids && are_apart ids))))
    ≡ ((object && objects) && (are_new seen (with_id id ids) && are_apart (with_id id ids)))
id_step object objects seen ids None = none_step object objects (are_new seen ids) (are_apart ids)
id_step object objects seen ids (Some id) =
    ap (λ (b : Bool). object && (not (has_id seen id) && (objects && (b && are_apart ids)))) (new_after id seen ids)
    ∙ some_step object (not (has_id seen id)) objects (not (has_id ids id)) (are_new seen ids) (are_apart ids)

-- after those that were seen: all are objects, none has an id that was seen, and no two have one id
after_is : (seen : List ℤ) (items : Items)
    → distinct_after seen items ≡ (are_objects items && (are_new seen (ids_of items) && are_apart (ids_of items)))
after_is seen no_items = refl
after_is seen (item value items) =
    ap (λ (b : Bool). is_some (as_object value) && (is_new seen (id_of value) && b))
    (after_is (with_id (id_of value) seen) items)
    ∙ id_step (is_some (as_object value)) (are_objects items) seen (ids_of items) (id_of value)

-- so it is of the whole list
pub distinct_is : (items : Items) → distinct_after [] items ≡ are_distinct items
distinct_is items =
    after_is [] items
    ∙ ap (λ (b : Bool). are_objects items && (b && are_apart (ids_of items))) (new_at_first (ids_of items))
