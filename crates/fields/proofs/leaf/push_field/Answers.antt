use Rattle.std.proofs.Common.{rules}
use Rattle.fields.proofs.leaf.push_field.Goals as goal

pub returns-else-opens : goal.returns-else-opens
returns-else-opens c = search rules
