-- What the limits of a list say of its items.
use Rattle.std.proofs.Common.{◌≡◌, ◌≤◌, nat_lt, Bool, if◌then◌else◌, Ok, Err, ap, ◌∙◌}
use Rattle.std.proofs.lemmas.Bool.{ltb-false, le-ltb}
use Rattle.words.specs.Steps.{test_failed}
use Rattle.serde_json.specs.Data.{Data, Items, item}
use Rattle.serde_json.specs.Events.{items_len}
use Rattle.snapshot_entries.specs.declared.refusal.SnapshotRefusal.TheVariants.{Snapshots, Path}
use Rattle.snapshot_entries.specs.List.{most_snapshots, most_path, path_length, paths_checked, limits_checked}

-- the path of the first item is short enough, and so are the others
pub paths_short : (value : Data) (items : Items) → paths_checked (item value items) ≡ Ok tt
    → (path_length value ≤ most_path) × (paths_checked items ≡ Ok tt)
paths_short value items is =
    let p = test_failed (nat_lt most_path (path_length value)) (paths_checked items) (Path (path_length value)) tt is in
    (ltb-false most_path (path_length value) p.0, p.1)

pub short_paths : (value : Data) (items : Items) → path_length value ≤ most_path → paths_checked items ≡ Ok tt
    → paths_checked (item value items) ≡ Ok tt
short_paths value items short others =
    ap (λ (b : Bool). if b then Err (Path (path_length value)) else paths_checked items)
    (le-ltb most_path (path_length value) short) ∙ others

-- there are few enough items, and all paths are short enough
pub limits_kept : (items : Items) → limits_checked items ≡ Ok tt
    → (items_len items ≤ most_snapshots) × (paths_checked items ≡ Ok tt)
limits_kept items is =
    let n = items_len items in
    let p = test_failed (nat_lt most_snapshots n) (paths_checked items) (Snapshots n) tt is in
    (ltb-false most_snapshots n p.0, p.1)

pub kept_limits : (items : Items) → items_len items ≤ most_snapshots → paths_checked items ≡ Ok tt
    → limits_checked items ≡ Ok tt
kept_limits items few short =
    ap (λ (b : Bool). if b then Err (Snapshots (items_len items)) else paths_checked items)
    (le-ltb most_snapshots (items_len items) few) ∙ short
