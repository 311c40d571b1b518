use Rattle.avro_container.specs.Writing.{pair_text, HasTextKey}
use Rattle.words.specs.Puts.{none_put, next_put, all_put}
use Rattle.avro_container.proofs.writing.put_pairs.Goals as goal

pub loop-pair-init : goal.loop-pair-init
loop-pair-init c = none_put pair_text HasTextKey c.args.pairs.now c.args.out.now.items

pub loop-pair-preserved : goal.loop-pair-preserved
loop-pair-preserved c = next_put pair_text HasTextKey c.args.pairs.now c.loop-pair.pair-index c.args.out.now.items c.loop-pair.out.items c.put_pair.new.out.items c.pair-item.result c.loop-pair-test.true c.pair-item.is c.loop-pair.invariant c.in_ok-put_pair.ensures.ok c.put_pair.ensures.text

pub returns-clause-ok : goal.returns-clause-ok
returns-clause-ok c = (all_put pair_text HasTextKey c.args.pairs.now c.loop-pair.pair-index c.args.out.now.items c.loop-pair.out.items c.loop-pair-test.false c.loop-pair.invariant).0

pub returns-clause-texts : goal.returns-clause-texts
returns-clause-texts c = (all_put pair_text HasTextKey c.args.pairs.now c.loop-pair.pair-index c.args.out.now.items c.loop-pair.out.items c.loop-pair-test.false c.loop-pair.invariant).1
