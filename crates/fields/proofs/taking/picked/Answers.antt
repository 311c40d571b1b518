use Rattle.std.proofs.Common.{sym, ◌∙◌}
use Rattle.std.proofs.Math.ListN.{get_or-map}
use Rattle.row_types.specs.CellRef.{lent_cell}
use Rattle.fields.proofs.taking.picked.Goals as goal

pub returns-in-Some : goal.returns-in-Some
returns-in-Some c = rw c.in-Some.is (c.same.ensures ∙ sym (get_or-map lent_cell c.args.all.now c.in-Some.place _))
