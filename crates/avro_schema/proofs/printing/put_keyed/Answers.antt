use Rattle.std.proofs.Common.{sym, subst}
use Rattle.avro_schema.specs.Printing.{keyed_member}
use Rattle.avro_schema.specs.Putting.{Puts}
use Rattle.avro_schema.proofs.printing.put_keyed.Goals as goal

pub returns-then-keyed : goal.returns-then-keyed
returns-then-keyed c = subst (λ keyed. Puts c.put_text.result c.args.out.now c.put_text.new.out (keyed_member keyed)) (sym c.if-keyed.true) c.put_text.ensures
