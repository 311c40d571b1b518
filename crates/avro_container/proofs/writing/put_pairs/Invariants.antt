use Rattle.avro_container.specs.Writing.{pair_text, HasTextKey}
use Rattle.words.specs.Puts.{ArePut}
use Rattle.avro_container.proofs.writing.put_pairs.Given as goal

abbrev pub invariant-loop-pair : goal.invariant-loop-pair
invariant-loop-pair l = ArePut pair_text HasTextKey l.pairs l.pair-index l.fn.out.items l.out.items
