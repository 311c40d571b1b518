use Rattle.std.proofs.Common.{rules}
use Rattle.json_members.proofs.rows.is_in.Goals as goal

pub returns-in-Older-version : goal.returns-in-Older-version
returns-in-Older-version c = search rules
