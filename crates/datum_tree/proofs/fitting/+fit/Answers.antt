use Rattle.std.proofs.Common.{◌∙◌, sym, arith}
use Rattle.datum_tree.proofs.FitLemmas.{fits_as_many, fits_not, fits_more, branch_fits, no_branch_fits}
use Rattle.datum_tree.proofs.fitting.+fit.Goals as goal

pub fits_branch-returns-then-place-branches : goal.fits_branch-returns-then-place-branches
fits_branch-returns-then-place-branches t c = no_branch_fits c.args.branches.now c.args.place c.args.inside.now c.if-place-branches.true

pub fits_branch-returns : goal.fits_branch-returns
fits_branch-returns t c = c.fits_value.ensures ∙ branch_fits c.args.branches.now c.args.place c.args.inside.now c.index-branches-place.result c.if-place-branches.false c.index-branches-place.is

pub fits_fields-returns-then-fields-values : goal.fits_fields-returns-then-fields-values
fits_fields-returns-then-fields-values t c = fits_as_many c.args.fields.now c.args.values.now c.if-fields-values.true

pub fits_fields-returns-then-not-fits_value : goal.fits_fields-returns-then-not-fits_value
fits_fields-returns-then-not-fits_value t c =
    fits_not c.args.fields.now c.args.values.now c.loop-place.place c.index-fields-place.result c.index-values-place.result c.loop-place-test.true (omega (arith, c.if-fields-values.false)) c.index-values-place.is (sym c.if-not-fits_value.ensures)

pub fits_fields-loop-place-preserved : goal.fits_fields-loop-place-preserved
fits_fields-loop-place-preserved t c =
    fits_more c.args.fields.now c.args.values.now c.loop-place.place c.index-fields-place.result c.index-values-place.result c.loop-place-test.true (omega (arith, c.if-fields-values.false)) c.index-values-place.is
    (sym c.if-not-fits_value.ensures) c.loop-place.invariant
