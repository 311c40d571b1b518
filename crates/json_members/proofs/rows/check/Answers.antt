use Rattle.std.proofs.Common.{rules}
use Rattle.json_members.proofs.rows.check.Goals as goal

pub returns-in-Needed : goal.returns-in-Needed
returns-in-Needed c = record { exact = search rules }
