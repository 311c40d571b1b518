use Rattle.std.proofs.Common.{◌≡◌, [], drop}
use Rattle.serde_json.specs.View.{items_view}
use Rattle.schema_columns.specs.Reading.{columns_from}
use Rattle.schema_columns.proofs.reading.columns_from.Given as goal

-- the others decide
abbrev pub invariant-loop-item : goal.invariant-loop-item
invariant-loop-item l =
    columns_from l.list.items (items_view (drop l.item-index l.items)) ≡ columns_from [] (items_view l.items)
