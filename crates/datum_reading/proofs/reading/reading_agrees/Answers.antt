use Rattle.datum_reading.proofs.SpelledDatum.{agrees_datum}
use Rattle.datum_reading.proofs.reading.reading_agrees.Goals as goal

pub returns : goal.returns
returns c = agrees_datum
