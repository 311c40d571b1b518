use Rattle.avro_wire.proofs.Numbers.{spellings_agree}
use Rattle.avro_wire.proofs.reading.no_prefix.Goals as goal

pub returns : goal.returns
returns c = spellings_agree
