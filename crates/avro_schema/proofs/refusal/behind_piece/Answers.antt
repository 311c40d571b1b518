use Rattle.std.proofs.Common.{rules}
use Rattle.avro_schema.proofs.refusal.behind_piece.Goals as goal

pub returns-then-is_empty : goal.returns-then-is_empty
returns-then-is_empty c = search rules
