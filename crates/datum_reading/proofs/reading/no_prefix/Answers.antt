use Rattle.datum_reading.proofs.DatumLaws.{spellings_agree}
use Rattle.datum_reading.proofs.reading.no_prefix.Goals as goal

pub returns : goal.returns
returns c = spellings_agree
