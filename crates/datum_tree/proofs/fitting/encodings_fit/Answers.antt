use Rattle.datum_tree.proofs.SpelledFits.{encoding_fits}
use Rattle.datum_tree.proofs.fitting.encodings_fit.Goals as goal

pub returns : goal.returns
returns c = encoding_fits
