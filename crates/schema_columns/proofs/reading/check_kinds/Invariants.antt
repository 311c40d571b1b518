use Rattle.std.proofs.Common.{◌≡◌, drop}
use Rattle.serde_json.specs.View.{items_view}
use Rattle.schema_columns.specs.Reading.{kinds_checked}
use Rattle.schema_columns.proofs.reading.check_kinds.Given as goal

-- the others decide
abbrev pub invariant-loop-item : goal.invariant-loop-item
invariant-loop-item l = kinds_checked (items_view (drop l.item-index l.items)) ≡ kinds_checked (items_view l.items)
