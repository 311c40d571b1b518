use Rattle.std.proofs.Common.{rules}
use Rattle.report.specs.Start.{start_of}
use Rattle.report.proofs.start_line.start_line.Goals as goal

pub returns : goal.returns
unfolding start_of
returns c = search rules
