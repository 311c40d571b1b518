use Rattle.std.proofs.Common.{◌≡◌, ◌++◌, ◌<◌, ◌^◌, length, arith, rules}
use Rattle.std.specs.Prelude.{pos}
use Rattle.std.proofs.lemmas.Grind.{common_steps}
use Rattle.std.proofs.lemmas.Int.{to_z_pos}
use Rattle.std.proofs.Common.{w64}
use Rattle.avro_wire.specs.Writing.{number_text}
use Rattle.avro_wire.proofs.PutSteps.{bytes_behind}
use Rattle.avro_wire.proofs.writing.put_bytes.Goals as goal

pub returns-clause-ok : goal.returns-clause-ok
returns-clause-ok c =
    let fits : length c.args.value.now < 2 ^ 63 = search rules in
    let size : c.put_long.new.out.items ≡ c.args.out.now.items ++ number_text (pos (length c.args.value.now)) = rw (to_z_pos w64 (length c.args.value.now) fits) at c.in_ok-put_long.ensures.ok in
    bytes_behind c.extend_from_slice.new.self.items c.put_long.new.out.items c.args.out.now.items c.args.value.now c.in_default.ensures.items size

pub returns-in-Err-clause-unchanged : goal.returns-in-Err-clause-unchanged
returns-in-Err-clause-unchanged c = grind (arith, common_steps)
