use Rattle.std.proofs.Common.{sym}
use Rattle.row_writing.proofs.WritingLemmas.{block_more, blocks_end}
use Rattle.row_writing.proofs.writing.blocks.Goals as goal

pub loop-rest-preserved : goal.loop-rest-preserved
loop-rest-preserved c =
    block_more c.args.columns.now c.args.lineage c.args.rows.now c.loop-rest.list c.push.new.self c.loop-rest.rest.now c.split_at.result.0.now c.split_at.result.1.now c.min.result c.in_ok-block.field-0 (sym c.loop-rest-test.ensures)
    c.min.ensures c.split_at.ensures.front c.split_at.ensures.back c.in_ok-block.ensures.exact c.in_ok-block.ensures.encoded c.in_ok-push.ensures.ok c.loop-rest.invariant

pub returns-clause-exact : goal.returns-clause-exact
returns-clause-exact c = (blocks_end c.args.columns.now c.args.lineage c.args.rows.now c.loop-rest.list c.loop-rest.rest.now (sym c.loop-rest-test.ensures) c.loop-rest.invariant).0
