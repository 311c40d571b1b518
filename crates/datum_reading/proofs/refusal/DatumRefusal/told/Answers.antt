use Rattle.std.proofs.Common.{rules}
use Rattle.datum_reading.proofs.refusal.DatumRefusal.told.Goals as goal

pub returns-in-Flag : goal.returns-in-Flag
returns-in-Flag c = search rules
