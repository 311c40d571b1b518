use Rattle.std.proofs.Common.{◌≡◌, drop}
use Rattle.serde_json.specs.View.{items_view}
use Rattle.snapshot_entries.specs.List.{paths_checked}
use Rattle.snapshot_entries.proofs.list.check_paths.Given as goal

-- the others decide
abbrev pub invariant-loop-item : goal.invariant-loop-item
invariant-loop-item l = paths_checked (items_view (drop l.item-index l.items)) ≡ paths_checked (items_view l.items)
