use Rattle.std.proofs.Common.{arith}
use Rattle.row_types.specs.declared.cell_ref.CellRef.TheVariants.{Null}
use Rattle.lineage_cli.proofs.PrintLemmas.{cells_put, most_next}
use Rattle.lineage_cli.proofs.row_line.put_others.Goals as goal

pub put_piece-start-requires : goal.put_piece-start-requires
put_piece-start-requires c =
    let next = most_next c.args.cells.now c.loop-cell.cell-index Null c.loop-cell-test.true in
    record { fits = omega (arith, next, c.loop-cell.invariant.within, c.loop-cell.invariant.width, c.requires.fits) }

pub returns-clause-put : goal.returns-clause-put
returns-clause-put c =
    cells_put c.args.cells.now c.loop-cell.cell-index _ _ c.loop-cell-test.false c.loop-cell.invariant.so_far
