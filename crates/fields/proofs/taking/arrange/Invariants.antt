use Rattle.std.proofs.Common.{◌≡◌, map, take, length}
use Rattle.row_types.specs.CellRef.{lent_cell}
use Rattle.fields.specs.Record.{pick}
use Rattle.fields.proofs.taking.arrange.Given as goal

abbrev pub invariant-loop-place : goal.invariant-loop-place
invariant-loop-place l = record {
  so_far : map lent_cell (take l.place l.wanted.items) ≡ map (pick (map lent_cell l.all.items)) (take l.place l.sources.items);
  width : length l.wanted.items ≡ length l.fn.wanted.items;
}
