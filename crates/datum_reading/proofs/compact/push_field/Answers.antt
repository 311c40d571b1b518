use Rattle.std.proofs.Common.{refl}
use Rattle.datum_reading.proofs.Compacting.{adds_nothing, adds_one}
use Rattle.datum_reading.proofs.compact.push_field.Goals as goal

pub returns-then-takes_nothing : goal.returns-then-takes_nothing
returns-then-takes_nothing c = adds_nothing c.args.found.now.items c.args.field.schema (c.takes_nothing.ensures c.if-takes_nothing.true)

pub returns : goal.returns
returns c = adds_one c.args.found.now.items c.push.new.self.items c.args.field c.args.field.schema c.in_ok-push.ensures.items refl
