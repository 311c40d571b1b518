-- A list of snapshots that is refused has the cause of its refusal, whichever check comes first.
use Rattle.std.proofs.Common.{◌≡◌, inl, inr, ℕ, ℤ, nat_lt, ◌<◌, List, [], ◌++◌, ◌∷◌, length, Option, Some, None}
use Rattle.std.proofs.Common.{unwrap_or, Err, codes, refl, sym, subst, arith}
use Rattle.std.proofs.lemmas.Bool.{ltb-true}
use Rattle.words.specs.Steps.{err_is, bind_refused, either_then}
use Rattle.serde_json.specs.Data.{Data, null, boolean, number, string, array, object, Items, no_items, item, Members}
use Rattle.serde_json.specs.Events.{items_len}
use Rattle.serde_json.specs.Find.{get_member, as_object}
use Rattle.json_members.specs.declared.rows.Version.{Version}
use Rattle.json_members.specs.Values.{text_in, text_or_empty}
use Rattle.snapshot_entries.specs.declared.snapshot.Snapshot.{Snapshot}
use Rattle.snapshot_entries.specs.declared.refusal.SnapshotRefusal.{SnapshotRefusal}
use Rattle.snapshot_entries.specs.declared.refusal.SnapshotRefusal.TheVariants.{Missing, Wrong, NoManifestList}
use Rattle.snapshot_entries.specs.declared.refusal.SnapshotRefusal.TheVariants.{Snapshots, Path, Memory}
use Rattle.snapshot_entries.specs.Cause.{ItemIsRefused, AnyIsRefused, IsListCause}
use Rattle.snapshot_entries.specs.List.{most_snapshots, most_path, path_length, paths_checked, limits_checked}
use Rattle.snapshot_entries.specs.Reading.{path_by, object_or_wrong, snapshot_at, snapshots_from, snapshots_in}
use Rattle.snapshot_entries.specs.RefusedLaws.{path_cause}

-- ---- items

-- an item that is refused has the cause of its refusal
item_cause : (version : Version) (last : ℤ) (found : Option Members) (refusal : SnapshotRefusal)
    → object_or_wrong version last found ≡ Err refusal → ItemIsRefused version last found refusal
item_cause version last None refusal is = sym (err_is (Wrong (codes "snapshots")) refusal is)
item_cause version last (Some ms) refusal is =
    bind_refused (path_by version last (λ name. get_member name ms)) _ refusal is
    (path_cause version last (λ name. get_member name ms) refusal)
    (λ path _ never. absurd cc)

-- so has one of the items, if a check of an item refuses the list
items_cause : (version : Version) (last : ℤ) (seen : List Snapshot) (items : Items) (refusal : SnapshotRefusal)
    → snapshots_from version last seen items ≡ Err refusal → AnyIsRefused version last items refusal
items_cause version last seen no_items refusal is = absurd cc
items_cause version last seen (item value items) refusal is =
    bind_refused (snapshot_at version last value) _ refusal is
    (λ here. inl (item_cause version last (as_object value) refusal here))
    (λ s _ rest. inr (items_cause version last (seen ++ s ∷ []) items refusal rest))

-- ---- limits

-- a text that is too long is there
long_text : (text : Option (List ℕ)) → most_path < length (unwrap_or text []) → text ≡ Some (unwrap_or text [])
long_text None above = absurd (omega arith)
long_text (Some path) above = refl

-- a path that is too long is the text at `manifest-list` of an object
long_cause : (version : Version) (last : ℤ) (value : Data) → most_path < path_length value
    → ItemIsRefused version last (as_object value) (Path (path_length value))
long_cause version last null above = absurd (omega arith)
long_cause version last (boolean b) above = absurd (omega arith)
long_cause version last (number n) above = absurd (omega arith)
long_cause version last (string s) above = absurd (omega arith)
long_cause version last (array items) above = absurd (omega arith)
long_cause version last (object ms) above =
    let found = get_member (codes "manifest-list") ms in
    record { path = text_or_empty found; here = long_text (text_in found) above; counted = refl; above = above }

-- one of the items has the path that is refused
paths_cause : (version : Version) (last : ℤ) (items : Items) (refusal : SnapshotRefusal)
    → paths_checked items ≡ Err refusal → AnyIsRefused version last items refusal
paths_cause version last no_items refusal is = absurd cc
paths_cause version last (item value items) refusal is =
    let many = path_length value in
    either_then (nat_lt most_path many) (Err (Path many)) (paths_checked items) (Err refusal) is
    (λ above here. inl (subst (ItemIsRefused version last (as_object value)) (err_is _ refusal here)
    (long_cause version last value (ltb-true most_path many above))))
    (λ rest. inr (paths_cause version last items refusal rest))

-- an item is never refused for the number of items
no_count : (version : Version) (last : ℤ) (found : Option Members) (many : ℕ)
    → ItemIsRefused version last found (Snapshots many) → ⊥
no_count version last None many is = absurd cc
no_count version last (Some ms) many h = h

-- nor is any of them
no_counts : (version : Version) (last : ℤ) (items : Items) (many : ℕ)
    → AnyIsRefused version last items (Snapshots many) → ⊥
no_counts version last no_items many h = h
no_counts version last (item value items) many (inl h) = no_count version last (as_object value) many h
no_counts version last (item value items) many (inr h) = no_counts version last items many h

-- nor is it refused since memory ran out
never_at : (version : Version) (last : ℤ) (found : Option Members) → ItemIsRefused version last found Memory → ⊥
never_at version last None is = absurd cc
never_at version last (Some ms) h = h

-- nor is a list
pub never_for_memory : (version : Version) (last : ℤ) (items : Items) → IsListCause version last items Memory → ⊥
never_for_memory version last no_items h = h
never_for_memory version last (item value items) (inl h) = never_at version last (as_object value) h
never_for_memory version last (item value items) (inr h) = never_for_memory version last items h

-- the refusal of an item is one of the list
any_cause : (version : Version) (last : ℤ) (items : Items) (refusal : SnapshotRefusal)
    → AnyIsRefused version last items refusal → IsListCause version last items refusal
any_cause version last items (Missing name) h = h
any_cause version last items (Wrong name) h = h
any_cause version last items (NoManifestList id) h = h
any_cause version last items (Snapshots many) h = absurd (no_counts version last items many h)
any_cause version last items (Path many) h = h
any_cause version last items Memory h = h

-- if the limits refuse the list, it has the cause of its refusal
limits_cause : (version : Version) (last : ℤ) (items : Items) (refusal : SnapshotRefusal)
    → limits_checked items ≡ Err refusal → IsListCause version last items refusal
limits_cause version last items refusal is =
    let many = items_len items in
    either_then (nat_lt most_snapshots many) (Err (Snapshots many)) (paths_checked items) (Err refusal) is
    (λ above here. subst (IsListCause version last items) (err_is _ refusal here)
    (record { counted = refl; above = ltb-true most_snapshots many above }))
    (λ rest. any_cause version last items refusal (paths_cause version last items refusal rest))

-- ---- the whole list

-- the refusal has its cause, whichever check comes first
pub list_refused : (version : Version) (last : ℤ) (items : Items) (refusal : SnapshotRefusal)
    → snapshots_in version last items ≡ Err refusal → IsListCause version last items refusal
list_refused version last items refusal is =
    bind_refused (limits_checked items) _ refusal is
    (limits_cause version last items refusal)
    (λ x _ next. any_cause version last items refusal (items_cause version last [] items refusal next))
