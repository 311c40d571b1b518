use Rattle.std.proofs.Common.{◌∙◌}
use Rattle.datum_tree.specs.Value.{items_in}
use Rattle.datum_tree.specs.Counting.{pair_items}
use Rattle.datum_tree.proofs.CountLemmas.{each_too_many, map_taken}
use Rattle.datum_tree.proofs.fitting.+take.Goals as goal

pub take_each-returns-in-None : goal.take_each-returns-in-None
take_each-returns-in-None t c = each_too_many items_in c.args.values.now c.loop-value.value-index c.value-item.result c.loop-value.rest c.args.left c.loop-value-test.true c.value-item.is c.loop-value.invariant c.in-None.ensures

pub take_items-returns-else-many-left-2 : goal.take_items-returns-else-many-left-2
take_items-returns-else-many-left-2 t c = c.take_pairs.ensures ∙ map_taken c.args.datum.now c.in-Map.pairs c.as_slice-in-Map.result.now c.len-many-in-Map.result c.args.left c.in-Map.is c.as_slice-in-Map.ensures c.len-many-in-Map.ensures c.if-many-left-2.false

pub take_pairs-returns-in-None : goal.take_pairs-returns-in-None
take_pairs-returns-in-None t c = each_too_many pair_items c.args.pairs.now c.loop-pair.pair-index c.pair-item.result c.loop-pair.rest c.args.left c.loop-pair-test.true c.pair-item.is c.loop-pair.invariant c.in-None.ensures
