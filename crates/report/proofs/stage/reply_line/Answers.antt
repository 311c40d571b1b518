use Rattle.std.proofs.Common.{rules}
use Rattle.report.proofs.stage.reply_line.Goals as goal

pub returns-then-starts_with-clause-exact : goal.returns-then-starts_with-clause-exact
returns-then-starts_with-clause-exact g c = search rules
