use Rattle.std.proofs.Common.{ap}
use Rattle.avro_schema.specs.Printing.{utc_member}
use Rattle.avro_schema.proofs.Puts.{wrote_then, wrote_last, puts_as}
use Rattle.avro_schema.proofs.printing.put_utc.Goals as goal

pub returns-in_ok-key-in-Some : goal.returns-in_ok-key-in-Some
returns-in_ok-key-in-Some c =
    puts_as _ c.args.out.now c.boolean.new.self (ap utc_member c.in-Some.is)
    (wrote_then _ _ c.args.out.now c.key.new.self c.boolean.new.self _ _ c.in_ok-key-in-Some.ensures (wrote_last _ _ _ _ c.boolean.ensures))
