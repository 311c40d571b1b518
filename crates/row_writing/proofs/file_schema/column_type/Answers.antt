use Rattle.std.proofs.Common.{rules}
use Rattle.row_writing.proofs.file_schema.column_type.Goals as goal

pub returns : goal.returns
returns c = search rules
