use Rattle.std.proofs.Common.{[], rules}
use Rattle.serde_json.specs.View.{items_view}
use Rattle.snapshot_entries.proofs.IdLaws.{distinct_is}
use Rattle.snapshot_entries.proofs.list.are_distinct.Goals as goal

-- none was seen
pub loop-item-init : goal.loop-item-init
loop-item-init c = ([], λ id. search rules, distinct_is (items_view c.args.items.now))
