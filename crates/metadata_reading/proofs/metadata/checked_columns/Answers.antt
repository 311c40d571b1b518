use Rattle.std.proofs.Common.{rules}
use Rattle.metadata_reading.proofs.metadata.checked_columns.Goals as goal

pub returns : goal.returns
returns c = search rules
