use Rattle.std.proofs.Common.{rules}
use Rattle.report.proofs.schema_line.required_word.Goals as goal

pub returns-clause-exact : goal.returns-clause-exact
returns-clause-exact c = search rules
