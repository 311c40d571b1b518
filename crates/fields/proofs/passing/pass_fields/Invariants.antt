use Rattle.std.proofs.Common.{◌≡◌, ◌≤◌, List, [], length, drop}
use Rattle.datum_tree.specs.declared.datum.Datum.{Datum}
use Rattle.datum_reading.specs.Reading.{fields_at}
use Rattle.fields.specs.Flat.{leaf_readers}
use Rattle.fields.specs.Nulls.{with_nulls}
use Rattle.fields.specs.Record.{read_cells}
use Rattle.fields.proofs.passing.pass_fields.Given as goal

abbrev pub invariant-loop-place : goal.invariant-loop-place
invariant-loop-place l = record {
  start : l.fn.at.place ≤ l.at.place;
  within : l.at.place ≤ length l.input;
  before : List Datum;
  count : length before ≡ l.place;
  nulls : l.first ≡ with_nulls l.none l.needed (read_cells l.leaves before);
  so_far : fields_at (leaf_readers (drop l.place l.leaves)) before l.input l.at ≡ fields_at (leaf_readers l.leaves) [] l.input l.fn.at;
}
