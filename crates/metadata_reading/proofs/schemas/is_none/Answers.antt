use Rattle.std.proofs.Common.{◌∙◌}
use Rattle.metadata_reading.proofs.ReadingSteps.{none_is}
use Rattle.metadata_reading.proofs.schemas.is_none.Goals as goal

pub returns : goal.returns
returns c = c.is_empty.ensures ∙ none_is c.args.items.now
