use Rattle.row_writing.proofs.RowBytesLemmas.{cell_there, cell_more, cells_end}
use Rattle.row_writing.proofs.row_bytes.put_cells.Goals as goal

pub bounds-cells-place : goal.bounds-cells-place
bounds-cells-place c = cell_there c.args.columns.now c.args.cells.now c.loop-place.place c.requires.fits c.loop-place-test.true

pub loop-place-preserved : goal.loop-place-preserved
loop-place-preserved c =
    cell_more c.args.columns.now c.args.cells.now c.loop-place.place c.index-columns-place.result c.index-cells-place.result c.args.out.now.items c.loop-place.out.items c.put_column.new.out.items
    c.requires.fits c.loop-place-test.true c.index-cells-place.is c.in_ok-put_column.ensures.ok c.in_ok-put_column.ensures.sized c.loop-place.invariant

pub returns-clause-sized : goal.returns-clause-sized
returns-clause-sized c = (cells_end c.args.columns.now c.args.cells.now c.loop-place.place c.args.out.now.items c.loop-place.out.items c.requires.fits c.loop-place-test.false c.loop-place.invariant).1
