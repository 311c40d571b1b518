use Rattle.std.proofs.Common.{◌≡◌, [], ◌+◌, map, drop}
use Rattle.serde_json.specs.View.{view}
use Rattle.avro_schema.specs.Reading.{texts_at}
use Rattle.avro_schema.proofs.definition.texts_of.Given as goal

abbrev pub invariant-loop-value : goal.invariant-loop-value
invariant-loop-value l = record {
  place : l.place ≡ l.value-index + 1;
  so_far : texts_at l.place l.texts (map view (drop l.value-index l.values)) ≡ texts_at 1 [] (map view l.values);
}
