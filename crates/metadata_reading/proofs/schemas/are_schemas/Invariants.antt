use Rattle.std.proofs.Common.{◌≡◌, drop}
use Rattle.serde_json.specs.View.{items_view}
use Rattle.metadata_reading.specs.Schemas.{are_schemas}
use Rattle.metadata_reading.proofs.schemas.are_schemas.Given as goal

-- the others decide
abbrev pub invariant-loop-item : goal.invariant-loop-item
invariant-loop-item l = are_schemas (items_view (drop l.item-index l.items)) ≡ are_schemas (items_view l.items)
