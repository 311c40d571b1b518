use Rattle.std.proofs.Common.{◌≡◌, drop}
use Rattle.serde_json.specs.View.{items_view}
use Rattle.snapshot_entries.specs.List.{has_snapshot}
use Rattle.snapshot_entries.proofs.list.has_snapshot.Given as goal

-- the others decide
abbrev pub invariant-loop-item : goal.invariant-loop-item
invariant-loop-item l =
    has_snapshot (items_view (drop l.item-index l.items)) l.id ≡ has_snapshot (items_view l.items) l.id
