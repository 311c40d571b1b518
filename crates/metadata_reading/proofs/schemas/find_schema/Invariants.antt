use Rattle.std.proofs.Common.{◌≡◌, drop}
use Rattle.serde_json.specs.View.{items_view}
use Rattle.metadata_reading.specs.Schemas.{schema_of}
use Rattle.metadata_reading.proofs.schemas.find_schema.Given as goal

-- the others decide
abbrev pub invariant-loop-item : goal.invariant-loop-item
invariant-loop-item l = schema_of l.id (items_view (drop l.item-index l.items)) ≡ schema_of l.id (items_view l.items)
