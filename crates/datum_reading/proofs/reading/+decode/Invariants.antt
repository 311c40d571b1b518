use Rattle.std.proofs.Common.{◌≡◌, ◌+◌, ◌-◌, ◌≤◌, [], length, drop}
use Rattle.datum_reading.specs.Readers.{readers_of}
use Rattle.datum_reading.specs.Reading.{fields_at, pair_at, items_at, blocks_at, all_at, datum_at}
use Rattle.datum_reading.proofs.reading.+decode.Given as goal

abbrev pub invariant-read_array-loop : goal.invariant-read_array-loop
invariant-read_array-loop l = record {
  start : l.fn.at.place ≤ l.at.place;
  within : l.at.place ≤ length l.input;
  so_far : blocks_at (datum_at l.schema) (length l.input + 1 - l.counter) l.items l.input l.at ≡ all_at (datum_at l.schema) l.input l.fn.at;
}

abbrev pub invariant-read_items-loop : goal.invariant-read_items-loop
invariant-read_items-loop l = record {
  start : l.fn.at.place ≤ l.at.place;
  within : l.at.place ≤ length l.input;
  so_far : items_at (datum_at l.schema) (l.count - l.counter) l.items l.input l.at ≡ items_at (datum_at l.schema) l.count l.fn.items l.input l.fn.at;
}

abbrev pub invariant-read_map-loop : goal.invariant-read_map-loop
invariant-read_map-loop l = record {
  start : l.fn.at.place ≤ l.at.place;
  within : l.at.place ≤ length l.input;
  so_far : blocks_at (pair_at (datum_at l.schema)) (length l.input + 1 - l.counter) l.pairs l.input l.at ≡ all_at (pair_at (datum_at l.schema)) l.input l.fn.at;
}

abbrev pub invariant-read_pairs-loop : goal.invariant-read_pairs-loop
invariant-read_pairs-loop l = record {
  start : l.fn.at.place ≤ l.at.place;
  within : l.at.place ≤ length l.input;
  so_far : items_at (pair_at (datum_at l.schema)) (l.count - l.counter) l.pairs l.input l.at ≡ items_at (pair_at (datum_at l.schema)) l.count l.fn.pairs l.input l.fn.at;
}

abbrev pub invariant-read_record-loop-field : goal.invariant-read_record-loop-field
invariant-read_record-loop-field l = record {
  start : l.fn.at.place ≤ l.at.place;
  within : l.at.place ≤ length l.input;
  so_far : fields_at (readers_of (drop l.field-index l.field-items)) l.values l.input l.at ≡ fields_at (readers_of l.fields) [] l.input l.fn.at;
}
