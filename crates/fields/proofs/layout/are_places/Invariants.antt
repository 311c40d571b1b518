use Rattle.std.proofs.Common.{◌≡◌, take}
use Rattle.fields.specs.Order.{places_from}
use Rattle.fields.proofs.layout.are_places.Given as goal

abbrev pub invariant-loop-index : goal.invariant-loop-index
invariant-loop-index l = take l.index l.sources ≡ places_from 0 l.index
