use Rattle.std.proofs.Common.{rules}
use Rattle.json_members.proofs.rows.item_right.Goals as goal

pub returns-in-None : goal.returns-in-None
returns-in-None c = record { exact = search rules }
