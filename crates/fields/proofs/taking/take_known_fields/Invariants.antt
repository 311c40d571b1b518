use Rattle.std.proofs.Common.{◌≡◌, ◌≤◌, List, [], length, take, drop, map}
use Rattle.datum_tree.specs.declared.datum.Datum.{Datum}
use Rattle.fields.specs.Flat.{leaf_readers}
use Rattle.datum_reading.specs.Reading.{fields_at}
use Rattle.row_types.specs.CellRef.{lent_cell}
use Rattle.fields.specs.Record.{read_cells}
use Rattle.fields.proofs.taking.take_known_fields.Given as goal

abbrev pub invariant-loop-place : goal.invariant-loop-place
invariant-loop-place l = record {
  start : l.fn.at.place ≤ l.at.place;
  within : l.at.place ≤ length l.input;
  width : length l.all ≡ length l.fn.all;
  before : List Datum;
  count : length before ≡ l.place;
  cells : map lent_cell (take l.place l.all) ≡ read_cells l.leaves before;
  so_far : fields_at (leaf_readers (drop l.place l.leaves)) before l.input l.at ≡ fields_at (leaf_readers l.leaves) [] l.input l.fn.at;
}
