-- The items that are the objects of snapshots: how many, their ids and their paths.
use Rattle.std.proofs.Common.{◌≡◌, ℤ, suc, ◌≤◌, List, [], ◌∷◌, length, map, Bool, true, ◌&&◌, Option, Some, Ok, codes}
use Rattle.std.proofs.Common.{is_some, refl, sym, ap, subst, ◌∙◌}
use Rattle.serde_json.specs.Data.{Data, string, Items, no_items, item}
use Rattle.serde_json.specs.Events.{items_len}
use Rattle.serde_json.specs.Find.{get, get_member, as_object}
use Rattle.json_members.specs.declared.rows.Version.{Version}
use Rattle.json_members.specs.MeaningLaws.{natural_is_number}
use Rattle.json_members.specs.Values.{text_or_empty}
use Rattle.snapshot_entries.specs.declared.snapshot.Snapshot.{Snapshot}
use Rattle.snapshot_entries.specs.List.{are_objects, id_of, with_id, ids_of, most_path, path_length, paths_checked}
use Rattle.snapshot_entries.specs.ListLaws.{short_paths}
use Rattle.snapshot_entries.specs.Relation.{IsEntry, AreEntries}

-- ---- one item

entry_object : (version : Version) (last : ℤ) (value : Data) (s : Snapshot) → IsEntry version last value s
    → is_some (as_object value) ≡ true
entry_object version last value s h = ap (λ (d : Data). is_some (as_object d)) h.is_object

entry_id : (version : Version) (last : ℤ) (value : Data) (s : Snapshot) → IsEntry version last value s
    → id_of value ≡ Some s.id
entry_id version last value s h =
    ap id_of h.is_object ∙ natural_is_number (get_member (codes "snapshot-id") h.members) s.id h.snapshot.id

entry_short : (version : Version) (last : ℤ) (value : Data) (s : Snapshot) → IsEntry version last value s
    → path_length value ≤ most_path
entry_short version last value s h =
    let found : get (codes "manifest-list") value ≡ Some (string s.list)
    = ap (get (codes "manifest-list")) h.is_object ∙ h.snapshot.list in
    subst (λ (o : Option Data). length (text_or_empty o) ≤ most_path) (sym found) h.snapshot.path

-- ---- all items

-- they are objects
pub entries_objects : (version : Version) (last : ℤ) (items : Items) (snapshots : List Snapshot)
    → AreEntries version last items snapshots → are_objects items ≡ true
entries_objects version last no_items [] h = refl
entries_objects version last no_items (s ∷ snapshots) h = absurd h
entries_objects version last (item value items) [] h = absurd h
entries_objects version last (item value items) (s ∷ snapshots) h =
    ap (λ (b : Bool). b && are_objects items) (entry_object version last value s h.0)
    ∙ entries_objects version last items snapshots h.1

-- their ids are those of the snapshots
pub entries_ids : (version : Version) (last : ℤ) (items : Items) (snapshots : List Snapshot)
    → AreEntries version last items snapshots → ids_of items ≡ map (λ (s : Snapshot). s.id) snapshots
entries_ids version last no_items [] h = refl
entries_ids version last no_items (s ∷ snapshots) h = absurd h
entries_ids version last (item value items) [] h = absurd h
entries_ids version last (item value items) (s ∷ snapshots) h =
    ap (λ (o : Option ℤ). with_id o (ids_of items)) (entry_id version last value s h.0)
    ∙ ap (λ (ids : List ℤ). s.id ∷ ids) (entries_ids version last items snapshots h.1)

-- there are as many as snapshots
pub entries_many : (version : Version) (last : ℤ) (items : Items) (snapshots : List Snapshot)
    → AreEntries version last items snapshots → items_len items ≡ length snapshots
entries_many version last no_items [] h = refl
entries_many version last no_items (s ∷ snapshots) h = absurd h
entries_many version last (item value items) [] h = absurd h
entries_many version last (item value items) (s ∷ snapshots) h = ap suc (entries_many version last items snapshots h.1)

-- their paths are short enough
pub entries_short : (version : Version) (last : ℤ) (items : Items) (snapshots : List Snapshot)
    → AreEntries version last items snapshots → paths_checked items ≡ Ok tt
entries_short version last no_items [] h = refl
entries_short version last no_items (s ∷ snapshots) h = absurd h
entries_short version last (item value items) [] h = absurd h
entries_short version last (item value items) (s ∷ snapshots) h =
    short_paths value items (entry_short version last value s h.0) (entries_short version last items snapshots h.1)
