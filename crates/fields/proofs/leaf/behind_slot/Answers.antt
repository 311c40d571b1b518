use Rattle.std.proofs.Common.{rules}
use Rattle.fields.proofs.leaf.behind_slot.Goals as goal

pub returns-then-empty : goal.returns-then-empty
returns-then-empty c = search rules
