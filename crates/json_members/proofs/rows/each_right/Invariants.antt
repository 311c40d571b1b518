use Rattle.std.proofs.Common.{◌≡◌, drop}
use Rattle.serde_json.specs.View.{items_view}
use Rattle.json_members.specs.Rows.{each_checked, rows_of, of_version}
use Rattle.json_members.proofs.rows.each_right.Given as goal

abbrev pub invariant-loop-item : goal.invariant-loop-item
invariant-loop-item l = each_checked l.list (of_version l.version (rows_of l.rows)) (items_view (drop l.item-index l.items))
    ≡ each_checked l.list (of_version l.version (rows_of l.rows)) (items_view l.items)
