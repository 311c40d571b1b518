use Rattle.std.proofs.Common.{sym, ◌∙◌}
use Rattle.row_types.specs.Columns.{has_wrong_id}
use Rattle.row_types.proofs.FaultLemmas.{fault_here}
use Rattle.row_types.proofs.columns.place_of_wrong_id.Goals as goal

pub returns-then-has_wrong_id-clause-value : goal.returns-then-has_wrong_id-clause-value
returns-then-has_wrong_id-clause-value c = c.loop-place.invariant ∙ fault_here has_wrong_id _ _ c.index-columns-place.result c.loop-place-test.true c.index-columns-place.is (sym c.has_wrong_id.ensures ∙ c.if-has_wrong_id.true)
