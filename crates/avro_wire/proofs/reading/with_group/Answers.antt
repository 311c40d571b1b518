use Rattle.std.proofs.Common.{◌*◌, ◌%◌, arith, refl}
use Rattle.avro_wire.proofs.Groups.{group_whole, group_below}
use Rattle.avro_wire.proofs.reading.with_group.Goals as goal

pub overflow_add-result : goal.overflow_add-result
overflow_add-result c = rw c.from.ensures (rw (group_whole (c.args.byte % 128) (7 * c.args.index) c.requires.room) (search arith))

pub returns-clause-value : goal.returns-clause-value
returns-clause-value c = rw c.from.ensures (rw (group_whole (c.args.byte % 128) (7 * c.args.index) c.requires.room) refl)

pub returns-clause-below : goal.returns-clause-below
returns-clause-below c = rw c.from.ensures (rw (group_whole (c.args.byte % 128) (7 * c.args.index) c.requires.room) (group_below c.args.value (c.args.byte % 128) (7 * c.args.index) c.requires.so_far (omega arith)))
