-- The ids of a list from left to right: those that were seen, and a set of them.
use Rattle.std.specs.Prelude.{◌≡◌, ℤ, Bool, true, not, ◌&&◌, List, Option, Some, None, is_some}
use Rattle.std.specs.BTreeSet.{BTreeSet, contains}
use Rattle.std.specs.Ordering.{int_cmp}
use Rattle.serde_json.specs.Data.{Items, no_items, item}
use Rattle.serde_json.specs.Find.{as_object}
use Rattle.snapshot_entries.specs.List.{id_of, has_id, with_id}

-- the id, if there is one, was not seen
abbrev pub is_new : List ℤ → Option ℤ → Bool
is_new seen None = true
is_new seen (Some id) = not (has_id seen id)

-- all items are objects, and their ids are distinct and were not seen
abbrev pub distinct_after : List ℤ → Items → Bool
distinct_after seen no_items = true
distinct_after seen (item value items) =
    is_some (as_object value) && (is_new seen (id_of value) && distinct_after (with_id (id_of value) seen) items)

-- the set has just the ids of the list
abbrev pub HasIds : BTreeSet ℤ → List ℤ → Type 0
HasIds set ids = (id : ℤ) → contains int_cmp set id ≡ has_id ids id
