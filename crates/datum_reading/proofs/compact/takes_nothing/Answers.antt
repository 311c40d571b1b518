use Rattle.std.proofs.Common.{sym, subst, ◌∙◌}
use Rattle.std.proofs.lemmas.Bool.{eqb-true}
use Rattle.datum_reading.specs.Compact.{TakesNothing}
use Rattle.datum_reading.proofs.Compacting.{fixed_nothing, rec_nothing}
use Rattle.datum_reading.proofs.compact.takes_nothing.Goals as goal

pub returns-in-Fixed : goal.returns-in-Fixed
returns-in-Fixed c = λ none. subst TakesNothing (sym c.in-Fixed.is) (fixed_nothing c.in-Fixed.name c.in-Fixed.size (eqb-true c.in-Fixed.size 0 none))

pub returns-in-Rec : goal.returns-in-Rec
returns-in-Rec c = λ none. subst TakesNothing (sym c.in-Rec.is) (rec_nothing c.in-Rec.name c.in-Rec.fields (sym c.get.ensures ∙ c.is_empty.ensures.0 none))
