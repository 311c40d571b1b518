use Rattle.std.proofs.Common.{rules}
use Rattle.fields.proofs.wanted.is_this.Goals as goal

pub returns-then-is_id : goal.returns-then-is_id
returns-then-is_id c = search rules
