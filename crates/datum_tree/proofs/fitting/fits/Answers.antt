use Rattle.std.proofs.Common.{◌≡◌, ◌∙◌, rules}
use Rattle.datum_tree.specs.Fits.{fits}
use Rattle.datum_tree.proofs.SpelledFits.{encoding_fits}
use Rattle.datum_tree.proofs.fitting.fits.Goals as goal

pub returns-then-fits_value-clause-every : goal.returns-then-fits_value-clause-every
returns-then-fits_value-clause-every c =
    let exact : c.has_few_items.result ≡ fits c.args.schema.now c.args.datum.now = search rules in
    λ bytes encoding. exact ∙ encoding_fits c.args.schema.now c.args.datum.now bytes encoding

pub returns-else-fits_value-clause-every : goal.returns-else-fits_value-clause-every
returns-else-fits_value-clause-every c =
    let exact : c.fits_value.result ≡ fits c.args.schema.now c.args.datum.now = search rules in
    λ bytes encoding. exact ∙ encoding_fits c.args.schema.now c.args.datum.now bytes encoding
