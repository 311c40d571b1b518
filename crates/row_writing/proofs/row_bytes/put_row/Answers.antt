use Rattle.row_writing.proofs.RowBytesLemmas.{row_is_put}
use Rattle.row_writing.proofs.row_bytes.put_row.Goals as goal

pub returns-clause-ok : goal.returns-clause-ok
returns-clause-ok c =
    (row_is_put c.args.columns.now c.args.lineage c.args.row.now c.as_slice.result.now c.args.out.now.items c.put_cells.new.out.items c.put_lineage.new.out.items
    c.requires.fits c.as_slice.ensures c.in_ok-put_cells.ensures.sized c.in_ok-put_lineage.ensures.longs c.in_ok-put_cells.ensures.ok c.in_ok-put_lineage.ensures.ok).0

pub returns-clause-encoded : goal.returns-clause-encoded
returns-clause-encoded c =
    (row_is_put c.args.columns.now c.args.lineage c.args.row.now c.as_slice.result.now c.args.out.now.items c.put_cells.new.out.items c.put_lineage.new.out.items
    c.requires.fits c.as_slice.ensures c.in_ok-put_cells.ensures.sized c.in_ok-put_lineage.ensures.longs c.in_ok-put_cells.ensures.ok c.in_ok-put_lineage.ensures.ok).1
