use Rattle.std.proofs.Common.{◌≡◌, ℤ, List, drop}
use Rattle.serde_json.specs.View.{items_view}
use Rattle.snapshot_entries.specs.Ids.{HasIds, distinct_after}
use Rattle.snapshot_entries.specs.List.{are_distinct}
use Rattle.snapshot_entries.proofs.list.are_distinct.Given as goal

-- the others decide, beside the ids that were seen
abbrev pub invariant-loop-item : goal.invariant-loop-item
invariant-loop-item l =
    (seen : List ℤ) × HasIds l.ids seen
    × (distinct_after seen (items_view (drop l.item-index l.items)) ≡ are_distinct (items_view l.items))
