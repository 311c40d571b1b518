use Rattle.std.proofs.Common.{rules}
use Rattle.cell_text.proofs.escape.are_plain.Goals as goal

pub returns-then-lacks-4 : goal.returns-then-lacks-4
returns-then-lacks-4 c = search rules
