use Rattle.std.proofs.Common.{rules}
use Rattle.json_members.proofs.rows.has_field.Goals as goal

pub returns-in-InField : goal.returns-in-InField
returns-in-InField c = search rules
