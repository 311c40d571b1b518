use Rattle.avro_container.specs.Writing.{block_text, HasLongCount}
use Rattle.words.specs.Puts.{none_put, next_put, all_put}
use Rattle.avro_container.proofs.writing.put_blocks.Goals as goal

pub loop-block-init : goal.loop-block-init
loop-block-init c = none_put (block_text c.args.sync.now) HasLongCount c.args.blocks.now c.args.out.now.items

pub loop-block-preserved : goal.loop-block-preserved
loop-block-preserved c =
    let done = c.in_ok-put_block.ensures in
    next_put (block_text c.args.sync.now) HasLongCount c.args.blocks.now c.loop-block.block-index c.args.out.now.items
    c.loop-block.out.items c.put_block.new.out.items c.block-item.result c.loop-block-test.true c.block-item.is
    c.loop-block.invariant done.ok done.count

pub returns-clause-ok : goal.returns-clause-ok
returns-clause-ok c = (all_put (block_text c.args.sync.now) HasLongCount c.args.blocks.now c.loop-block.block-index c.args.out.now.items c.loop-block.out.items c.loop-block-test.false c.loop-block.invariant).0

pub returns-clause-counts : goal.returns-clause-counts
returns-clause-counts c = (all_put (block_text c.args.sync.now) HasLongCount c.args.blocks.now c.loop-block.block-index c.args.out.now.items c.loop-block.out.items c.loop-block-test.false c.loop-block.invariant).1
