use Rattle.std.proofs.Common.{◌≡◌, map, drop}
use Rattle.row_types.specs.CellRef.{lent_cell}
use Rattle.fields.specs.Wanted.{check_nulls}
use Rattle.fields.proofs.taking.check_nulls.Given as goal

abbrev pub invariant-loop-index : goal.invariant-loop-index
invariant-loop-index l = check_nulls (drop l.index l.wanted) (map lent_cell (drop l.index l.cells.items)) ≡ check_nulls l.wanted (map lent_cell l.cells.items)
