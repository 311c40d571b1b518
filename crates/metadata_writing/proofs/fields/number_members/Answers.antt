use Rattle.std.proofs.Common.{rules}
use Rattle.metadata_writing.proofs.fields.number_members.Goals as goal

pub returns : goal.returns
returns c = search rules
