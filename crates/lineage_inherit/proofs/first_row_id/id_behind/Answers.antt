use Rattle.std.proofs.Common.{rules}
use Rattle.lineage_inherit.proofs.first_row_id.id_behind.Goals as goal

pub returns-in-Some-checked_add : goal.returns-in-Some-checked_add
returns-in-Some-checked_add c = search rules

pub returns-in-None : goal.returns-in-None
returns-in-None c = search rules
