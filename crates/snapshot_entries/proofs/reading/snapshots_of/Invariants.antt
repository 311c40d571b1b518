use Rattle.std.proofs.Common.{◌≡◌, []}
use Rattle.std.specs.Vec.Iter.{into_iter_items}
use Rattle.serde_json.specs.View.{items_view}
use Rattle.snapshot_entries.specs.Reading.{snapshots_from}
use Rattle.snapshot_entries.proofs.reading.snapshots_of.Given as goal

-- the others decide
abbrev pub invariant-loop-item : goal.invariant-loop-item
invariant-loop-item l =
    (goal.iterator-loop-item).can_next l.item-iterator × (goal.iterator-loop-item).is_finite l.item-iterator
    × (snapshots_from l.version l.last l.snapshots (items_view (into_iter_items l.item-iterator))
    ≡ snapshots_from l.fn.version l.fn.last [] (items_view l.fn.items.items))
