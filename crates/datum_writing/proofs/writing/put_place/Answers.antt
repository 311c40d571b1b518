use Rattle.std.proofs.Common.{rules}
use Rattle.datum_writing.proofs.writing.put_place.Goals as goal

pub returns-clause-ok : goal.returns-clause-ok
returns-clause-ok c = search rules
