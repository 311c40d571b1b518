use Rattle.std.proofs.Common.{rules}
use Rattle.datum_writing.proofs.writing.put_sized.Goals as goal

pub returns-in-Some-clause-ok : goal.returns-in-Some-clause-ok
returns-in-Some-clause-ok c = search rules
