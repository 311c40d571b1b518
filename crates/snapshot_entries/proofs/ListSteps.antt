-- Steps of the checks of a list: of its ids, and of its paths.
use Rattle.std.proofs.Common.{◌≡◌, ℕ, ℤ, ◌+◌, ◌<◌, ◌≤◌, List, length, get_or, drop, Bool, true, false, ◌&&◌}
use Rattle.std.proofs.Common.{is_some, nat_lt, if◌then◌else◌, Err, refl, sym, ap, ◌∙◌}
use Rattle.std.proofs.lemmas.Bool.{lt-ltb, le-ltb}
use Rattle.std.proofs.lemmas.List.{at_drop_more, at_drop_all}
use Rattle.serde_json.specs.Data.{Data}
use Rattle.serde_json.specs.Find.{as_object}
use Rattle.serde_json.specs.View.{view, items_view}
use Rattle.serde_json.specs.declared.value.Value.{Value}
use Rattle.serde_json.proofs.Views.{items_len-items_view}
use Rattle.snapshot_entries.specs.declared.refusal.SnapshotRefusal.TheVariants.{Snapshots}
use Rattle.snapshot_entries.specs.Ids.{is_new, distinct_after}
use Rattle.snapshot_entries.specs.List.{with_id, id_of, paths_checked, limits_checked, most_snapshots}

abbrev here_and : List ℤ → Data → Bool → Bool
here_and seen d rest = is_some (as_object d) && (is_new seen (id_of d) && rest)

unrolled : (vs : List Value) (i : ℕ) (v : Value) (seen : List ℤ) → i < length vs → v ≡ get_or vs i v
    → distinct_after seen (items_view (drop i vs))
    ≡ here_and seen (view v) (distinct_after (with_id (id_of (view v)) seen) (items_view (drop (i + 1) vs)))
unrolled vs i v seen lt is =
    at_drop_more (λ (ws : List Value). distinct_after seen (items_view ws)) vs i v lt
    ∙ ap (λ (w : Value). here_and seen (view w) (distinct_after (with_id (id_of (view w)) seen) (items_view (drop (i + 1) vs))))
    (sym is)

-- an object with a new id: the others decide
pub distinct_on : (vs : List Value) (i : ℕ) (v : Value) (seen : List ℤ) (total : Bool) → i < length vs → v ≡ get_or vs i v
    → true ≡ is_some (as_object (view v)) → true ≡ is_new seen (id_of (view v))
    → distinct_after seen (items_view (drop i vs)) ≡ total
    → distinct_after (with_id (id_of (view v)) seen) (items_view (drop (i + 1) vs)) ≡ total
distinct_on vs i v seen total lt is object new so_far =
    let rest = distinct_after (with_id (id_of (view v)) seen) (items_view (drop (i + 1) vs)) in
    (ap (λ (b : Bool). b && rest) new ∙ ap (λ (b : Bool). b && (is_new seen (id_of (view v)) && rest)) object
    ∙ sym (unrolled vs i v seen lt is) ∙ so_far)

-- no object
pub distinct_stop : (vs : List Value) (i : ℕ) (v : Value) (seen : List ℤ) (total : Bool) → i < length vs
    → v ≡ get_or vs i v → false ≡ is_some (as_object (view v)) → distinct_after seen (items_view (drop i vs)) ≡ total
    → total ≡ false
distinct_stop vs i v seen total lt is object so_far =
    let rest = distinct_after (with_id (id_of (view v)) seen) (items_view (drop (i + 1) vs)) in
    sym so_far ∙ unrolled vs i v seen lt is
    ∙ sym (ap (λ (b : Bool). b && (is_new seen (id_of (view v)) && rest)) object)

and_false : (b : Bool) → (b && false) ≡ false
and_false true = refl
and_false false = refl

-- an id that was seen
pub distinct_twice : (vs : List Value) (i : ℕ) (v : Value) (seen : List ℤ) (total : Bool) → i < length vs
    → v ≡ get_or vs i v → false ≡ is_new seen (id_of (view v)) → distinct_after seen (items_view (drop i vs)) ≡ total
    → total ≡ false
distinct_twice vs i v seen total lt is new so_far =
    let rest = distinct_after (with_id (id_of (view v)) seen) (items_view (drop (i + 1) vs)) in
    sym so_far ∙ unrolled vs i v seen lt is
    ∙ sym (ap (λ (b : Bool). is_some (as_object (view v)) && (b && rest)) new) ∙ and_false (is_some (as_object (view v)))

-- the end
pub distinct_end : (vs : List Value) (i : ℕ) (seen : List ℤ) (total : Bool) → length vs ≤ i
    → distinct_after seen (items_view (drop i vs)) ≡ total → total ≡ true
distinct_end vs i seen total le so_far =
    sym so_far ∙ at_drop_all (λ (ws : List Value). distinct_after seen (items_view ws)) vs i le

-- ---- limits

-- too many snapshots
pub many_refused : (vs : List Value) → most_snapshots < length vs
    → limits_checked (items_view vs) ≡ Err (Snapshots (length vs))
many_refused vs many =
    ap (λ (n : ℕ). if nat_lt most_snapshots n then Err (Snapshots n) else paths_checked (items_view vs)) (items_len-items_view vs)
    ∙ ap (λ (b : Bool). if b then Err (Snapshots (length vs)) else paths_checked (items_view vs))
    (lt-ltb most_snapshots (length vs) many)

-- not too many: the paths decide
pub few_checked : (vs : List Value) → length vs ≤ most_snapshots
    → limits_checked (items_view vs) ≡ paths_checked (items_view vs)
few_checked vs few =
    ap (λ (n : ℕ). if nat_lt most_snapshots n then Err (Snapshots n) else paths_checked (items_view vs)) (items_len-items_view vs)
    ∙ ap (λ (b : Bool). if b then Err (Snapshots (length vs)) else paths_checked (items_view vs))
    (le-ltb most_snapshots (length vs) few)
