use Rattle.std.proofs.Common.{rules}
use Rattle.json_members.proofs.form.natural_of.Goals as goal

pub returns-then-number-lt0 : goal.returns-then-number-lt0
returns-then-number-lt0 c = search rules
