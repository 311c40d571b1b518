use Rattle.std.proofs.Common.{◌≡◌, take, length}
use Rattle.std.specs.Prelude.{replicate}
use Rattle.row_types.specs.declared.cell_ref.CellRef.TheVariants.{Null}
use Rattle.fields.proofs.taking.clear.Given as goal

abbrev pub invariant-loop-place : goal.invariant-loop-place
invariant-loop-place l = record {
  width : length l.cells ≡ length l.fn.cells;
  so_far : take l.place l.cells ≡ replicate l.place Null;
}
