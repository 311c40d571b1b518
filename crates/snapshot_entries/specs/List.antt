-- The checks of a whole list of snapshots: its ids, and its limits.
use Rattle.std.specs.Prelude.{ℕ, ℤ, nat_lt, length, Bool, true, false, not, ◌&&◌, ◌||◌, List, [], ◌∷◌, Option, Some}
use Rattle.std.specs.Prelude.{None, Result, Ok, Err, codes, is_some, if◌then◌else◌}
use Rattle.std.specs.Ordering.{int_eq}
use Rattle.serde_json.specs.Data.{Data, Items, no_items, item}
use Rattle.serde_json.specs.Events.{items_len}
use Rattle.serde_json.specs.Find.{get, as_object}
use Rattle.json_members.specs.Values.{number_in, text_or_empty}
use Rattle.snapshot_entries.specs.declared.refusal.SnapshotRefusal.{SnapshotRefusal}
use Rattle.snapshot_entries.specs.declared.refusal.SnapshotRefusal.TheVariants.{Wrong, Snapshots, Path}

-- ---- ids

-- all items are objects
abbrev pub are_objects : Items → Bool
are_objects no_items = true
are_objects (item value items) = is_some (as_object value) && are_objects items

-- the id of a snapshot, if it is a number
abbrev pub id_of : Data → Option ℤ
id_of value = number_in (get (codes "snapshot-id") value)

-- an id, if there is one, before others
abbrev pub with_id : Option ℤ → List ℤ → List ℤ
with_id None ids = ids
with_id (Some id) ids = id ∷ ids

-- the ids that are numbers, in order
abbrev pub ids_of : Items → List ℤ
ids_of no_items = []
ids_of (item value items) = with_id (id_of value) (ids_of items)

-- the id is among these
abbrev pub has_id : List ℤ → ℤ → Bool
has_id [] id = false
has_id (other ∷ ids) id = int_eq other id || has_id ids id

-- no id is among those after it
abbrev pub are_apart : List ℤ → Bool
are_apart [] = true
are_apart (id ∷ ids) = not (has_id ids id) && are_apart ids

-- all items are objects, and no two have one id
abbrev pub are_distinct : Items → Bool
are_distinct items = are_objects items && are_apart (ids_of items)

-- a list of other items is refused
abbrev pub ids_checked : Items → Result (Unit {0}) SnapshotRefusal
ids_checked items = if are_distinct items then Ok tt else Err (Wrong (codes "snapshots"))

-- some snapshot has the id
abbrev pub has_snapshot : Items → ℤ → Bool
has_snapshot items id = has_id (ids_of items) id

-- ---- limits

-- the most snapshots of a table
abbrev pub most_snapshots : ℕ
most_snapshots = 10000

-- the most bytes of a path
abbrev pub most_path : ℕ
most_path = 1024

-- how long the path of the manifest list is; 0 if there is no text
abbrev pub path_length : Data → ℕ
path_length value = length (text_or_empty (get (codes "manifest-list") value))

-- the first path that is too long is refused
abbrev pub paths_checked : Items → Result (Unit {0}) SnapshotRefusal
paths_checked no_items = Ok tt
paths_checked (item value items) =
    if nat_lt most_path (path_length value) then Err (Path (path_length value)) else paths_checked items

-- too many snapshots are refused, and then such a path
abbrev pub limits_checked : Items → Result (Unit {0}) SnapshotRefusal
limits_checked items =
    if nat_lt most_snapshots (items_len items) then Err (Snapshots (items_len items)) else paths_checked items
