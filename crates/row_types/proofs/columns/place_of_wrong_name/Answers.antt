use Rattle.std.proofs.Common.{sym, ◌∙◌}
use Rattle.row_types.specs.Columns.{has_wrong_name}
use Rattle.row_types.proofs.FaultLemmas.{fault_here}
use Rattle.row_types.proofs.columns.place_of_wrong_name.Goals as goal

pub returns-then-has_wrong_name-clause-value : goal.returns-then-has_wrong_name-clause-value
returns-then-has_wrong_name-clause-value c = c.loop-place.invariant ∙ fault_here has_wrong_name _ _ c.index-columns-place.result c.loop-place-test.true c.index-columns-place.is (sym c.has_wrong_name.ensures ∙ c.if-has_wrong_name.true)
