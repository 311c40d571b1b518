use Rattle.std.proofs.Common.{◌≡◌, [], ◌+◌, ◌*◌, map, drop}
use Rattle.serde_json.specs.View.{view}
use Rattle.avro_schema.specs.Parts.{schema_below}
use Rattle.avro_schema.specs.Reading.{fields_at, branches_at}
use Rattle.avro_schema.proofs.reading.+read.Given as goal

abbrev pub decreases-schema_of : goal.decreases-schema_of
decreases-schema_of l = 9 * l.levels

abbrev pub decreases-layer_of : goal.decreases-layer_of
decreases-layer_of l = 9 * l.room + 8

abbrev pub decreases-object_of : goal.decreases-object_of
decreases-object_of l = 9 * l.room + 7

abbrev pub decreases-complex_of : goal.decreases-complex_of
decreases-complex_of l = 9 * l.room + 6

abbrev pub decreases-record_of : goal.decreases-record_of
decreases-record_of l = 9 * l.room + 5

abbrev pub decreases-fields_of : goal.decreases-fields_of
decreases-fields_of l = 9 * l.room + 4

abbrev pub decreases-field_of : goal.decreases-field_of
decreases-field_of l = 9 * l.room + 3

abbrev pub decreases-piece_of : goal.decreases-piece_of
decreases-piece_of l = 9 * l.room + 2

abbrev pub decreases-array_of : goal.decreases-array_of
decreases-array_of l = 9 * l.room + 3

abbrev pub decreases-map_of : goal.decreases-map_of
decreases-map_of l = 9 * l.room + 3

abbrev pub decreases-union_of : goal.decreases-union_of
decreases-union_of l = 9 * l.room + 5

abbrev pub decreases-branches_of : goal.decreases-branches_of
decreases-branches_of l = 9 * l.room + 4

abbrev pub decreases-branch_of : goal.decreases-branch_of
decreases-branch_of l = 9 * l.room + 3

abbrev pub invariant-fields_of-loop-value : goal.invariant-fields_of-loop-value
invariant-fields_of-loop-value l = record {
  place : l.place ≡ l.value-index + 1;
  so_far : fields_at (schema_below l.room l.scope) l.place l.fields l.seen (map view (drop l.value-index l.values)) ≡ fields_at (schema_below l.room l.scope) 1 [] l.initial.seen (map view l.values);
}

abbrev pub invariant-branches_of-loop-value : goal.invariant-branches_of-loop-value
invariant-branches_of-loop-value l = record {
  place : l.place ≡ l.value-index + 1;
  so_far : branches_at (schema_below l.room l.scope) l.place l.branches l.seen (map view (drop l.value-index l.values)) ≡ branches_at (schema_below l.room l.scope) 1 [] l.initial.seen (map view l.values);
}
