use Rattle.std.proofs.Common.{◌≡◌, arith}
use Rattle.std.proofs.lemmas.Int.{ints, to_z-of_z}
use Rattle.std.proofs.Common.{w64}
use Rattle.std.specs.Prelude.{FitsSigned}
use Rattle.avro_wire.specs.Number.{long}
use Rattle.avro_wire.specs.Writing.{zigzag}
use Rattle.avro_wire.proofs.PutSteps.{appended}
use Rattle.avro_wire.specs.WritingLaws.{long_spelled}
use Rattle.avro_wire.proofs.WritingLemmas.{number_shortest}
use Rattle.avro_wire.proofs.writing.put_long.Goals as goal

pub returns-clause-ok : goal.returns-clause-ok
returns-clause-ok c =
    let fits : FitsSigned w64 c.args.value = c.ranges.value in
    let value : c.zigzag.result ≡ zigzag c.args.value = simp to_z-of_z at c.zigzag.ensures in
    appended c.extend_from_slice.result c.extend_from_slice.new.self.items c.args.out.now.items c.groups_of-count.result.1 c.groups_of-count.result.0 c.zigzag.result c.args.value c.extend_from_slice.ensures.items c.groups_of-count.ensures.value value

pub returns-clause-spelled : goal.returns-clause-spelled
returns-clause-spelled c = long_spelled c.args.value (omega (arith, ints)) (omega (arith, ints))

pub returns-clause-shortest : goal.returns-clause-shortest
returns-clause-shortest c = number_shortest long c.args.value
