use Rattle.datum_reading.proofs.DatumLaws.{found, found_fits, only}
use Rattle.datum_reading.proofs.reading.decode.Goals as goal

pub returns-clause-found : goal.returns-clause-found
returns-clause-found c = found c.args.schema.now c.args.input.now c.args.place c.decode_from.result c.decode_from.ensures.exact

pub returns-clause-fits : goal.returns-clause-fits
returns-clause-fits c = found_fits c.encodings_fit.ensures c.args.schema.now c.args.input.now c.args.place c.decode_from.result c.decode_from.ensures.exact

pub returns-clause-only : goal.returns-clause-only
returns-clause-only c = only c.args.schema.now c.args.input.now c.args.place c.decode_from.result c.decode_from.ensures.exact
