use Rattle.std.proofs.Common.{sym, ap, codes}
use Rattle.avro_schema.specs.Printing.{number_tokens}
use Rattle.avro_schema.proofs.Puts.{puts_as}
use Rattle.avro_schema.proofs.printing.put_long.Goals as goal

pub returns : goal.returns
returns c = puts_as _ c.args.out.now c.put_number.new.out (ap (number_tokens (codes "long")) (sym c.long_attributes.ensures)) c.put_number.ensures
