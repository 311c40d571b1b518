use Rattle.std.proofs.Common.{rules}
use Rattle.json_members.proofs.rows.takes_null.Goals as goal

pub returns-in-Needed : goal.returns-in-Needed
returns-in-Needed c = search rules
