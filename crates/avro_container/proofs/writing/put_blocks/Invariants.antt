use Rattle.avro_container.specs.Writing.{block_text, HasLongCount}
use Rattle.words.specs.Puts.{ArePut}
use Rattle.avro_container.proofs.writing.put_blocks.Given as goal

abbrev pub invariant-loop-block : goal.invariant-loop-block
invariant-loop-block l = ArePut (block_text l.sync) HasLongCount l.blocks l.block-index l.fn.out.items l.out.items
