use Rattle.std.proofs.Common.{rules}
use Rattle.lineage_model.proofs.rule.Rule.name.Goals as goal

pub returns-in-Fresh : goal.returns-in-Fresh
returns-in-Fresh c = search rules
