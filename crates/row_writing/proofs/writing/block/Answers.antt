use Rattle.std.proofs.Common.{[]}
use Rattle.words.specs.Puts.{next_put}
use Rattle.row_writing.specs.Written.{row_text, IsEncodedRow}
use Rattle.row_writing.proofs.writing.block.Goals as goal

pub loop-row-preserved : goal.loop-row-preserved
loop-row-preserved c =
    let columns = c.args.columns.now in
    let lineage = c.args.lineage in
    next_put (row_text columns lineage) (IsEncodedRow columns lineage) c.args.rows.now c.loop-row.row-index [] c.loop-row.bytes.items c.put_row.new.out.items c.row-item.result c.loop-row-test.true c.row-item.is c.loop-row.invariant c.in_ok-put_row.ensures.ok c.in_ok-put_row.ensures.encoded
