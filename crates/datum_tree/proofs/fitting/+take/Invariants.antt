use Rattle.std.proofs.Common.{◌≡◌, ◌+◌, take, map}
use Rattle.std.specs.List.{sum}
use Rattle.datum_tree.specs.Value.{items_in}
use Rattle.datum_tree.specs.Counting.{pair_items}
use Rattle.datum_tree.proofs.fitting.+take.Given as goal

abbrev pub invariant-take_each-loop-value : goal.invariant-take_each-loop-value
invariant-take_each-loop-value l = l.rest + sum (map items_in (take l.value-index l.values)) ≡ l.fn.left

abbrev pub invariant-take_pairs-loop-pair : goal.invariant-take_pairs-loop-pair
invariant-take_pairs-loop-pair l = l.rest + sum (map pair_items (take l.pair-index l.pairs)) ≡ l.fn.left
