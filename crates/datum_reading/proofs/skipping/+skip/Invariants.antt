use Rattle.std.proofs.Common.{◌≡◌, ℕ, ◌+◌, ◌-◌, ◌≤◌, List, [], length, drop}
use Rattle.datum_tree.specs.declared.datum.Datum.{Datum}
use Rattle.datum_reading.specs.Readers.{readers_of}
use Rattle.datum_reading.specs.Reading.{fields_at, pair_at, items_at, blocks_at, all_at, datum_at}
use Rattle.datum_reading.proofs.skipping.+skip.Given as goal

abbrev pub invariant-skip_array-loop : goal.invariant-skip_array-loop
invariant-skip_array-loop l = record {
  start : l.fn.at.place ≤ l.at.place;
  within : l.at.place ≤ length l.input;
  before : List Datum;
  so_far : blocks_at (datum_at l.schema) (length l.input + 1 - l.counter) before l.input l.at ≡ all_at (datum_at l.schema) l.input l.fn.at;
}

abbrev pub invariant-skip_items-loop : goal.invariant-skip_items-loop
invariant-skip_items-loop l = record {
  start : l.fn.at.place ≤ l.at.place;
  within : l.at.place ≤ length l.input;
  before : List Datum;
  so_far : items_at (datum_at l.schema) (l.count - l.counter) before l.input l.at ≡ items_at (datum_at l.schema) l.count [] l.input l.fn.at;
}

abbrev pub invariant-skip_map-loop : goal.invariant-skip_map-loop
invariant-skip_map-loop l = record {
  start : l.fn.at.place ≤ l.at.place;
  within : l.at.place ≤ length l.input;
  before : List (List ℕ × Datum);
  so_far : blocks_at (pair_at (datum_at l.schema)) (length l.input + 1 - l.counter) before l.input l.at ≡ all_at (pair_at (datum_at l.schema)) l.input l.fn.at;
}

abbrev pub invariant-skip_pairs-loop : goal.invariant-skip_pairs-loop
invariant-skip_pairs-loop l = record {
  start : l.fn.at.place ≤ l.at.place;
  within : l.at.place ≤ length l.input;
  before : List (List ℕ × Datum);
  so_far : items_at (pair_at (datum_at l.schema)) (l.count - l.counter) before l.input l.at ≡ items_at (pair_at (datum_at l.schema)) l.count [] l.input l.fn.at;
}

abbrev pub invariant-skip_fields-loop-field : goal.invariant-skip_fields-loop-field
invariant-skip_fields-loop-field l = record {
  start : l.fn.at.place ≤ l.at.place;
  within : l.at.place ≤ length l.input;
  before : List Datum;
  so_far : fields_at (readers_of (drop l.field-index l.field-items)) before l.input l.at ≡ fields_at (readers_of l.fields) [] l.input l.fn.at;
}
