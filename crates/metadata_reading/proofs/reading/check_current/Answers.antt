use Rattle.std.proofs.Common.{rules}
use Rattle.metadata_reading.proofs.reading.check_current.Goals as goal

pub returns-then-has_snapshot : goal.returns-then-has_snapshot
returns-then-has_snapshot c = search rules
