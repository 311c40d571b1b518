use Rattle.std.proofs.Common.{refl, arith, [], ◌∷◌}
use Rattle.avro_wire.proofs.PutSteps.{none_put, goes_on, has_room, ends_put}
use Rattle.avro_wire.proofs.writing.groups_of.Goals as goal

pub loop-left-init : goal.loop-left-init
loop-left-init c = none_put (0 ∷ 0 ∷ 0 ∷ 0 ∷ 0 ∷ 0 ∷ 0 ∷ 0 ∷ 0 ∷ 0 ∷ []) c.args.value refl (omega arith)

pub bounds-groups-count : goal.bounds-groups-count
bounds-groups-count c = has_room c.loop-left.groups c.loop-left.count c.loop-left.left c.args.value c.loop-left.invariant

pub loop-left-preserved : goal.loop-left-preserved
loop-left-preserved c = goes_on c.loop-left.groups c.loop-left.count c.loop-left.left c.args.value c.loop-left.invariant c.loop-left-test.true

pub bounds-groups-count-2 : goal.bounds-groups-count-2
bounds-groups-count-2 c = has_room c.loop-left.groups c.loop-left.count c.loop-left.left c.args.value c.loop-left.invariant

pub returns-clause-within : goal.returns-clause-within
returns-clause-within c = omega (arith, has_room c.loop-left.groups c.loop-left.count c.loop-left.left c.args.value c.loop-left.invariant)

pub returns-clause-value : goal.returns-clause-value
returns-clause-value c = ends_put c.loop-left.groups c.loop-left.count c.loop-left.left c.args.value c.loop-left.invariant c.loop-left-test.false
