use Rattle.std.proofs.Common.{rules}
use Rattle.metadata_reading.proofs.reading.current_at.Goals as goal

pub returns-then-id : goal.returns-then-id
returns-then-id c = search rules
