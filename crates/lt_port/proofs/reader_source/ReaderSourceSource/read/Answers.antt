use Rattle.std.proofs.Common.{rules}
use Rattle.lt_port.proofs.reader_source.ReaderSourceSource.read.Goals as goal

pub returns-clause-bytes : goal.returns-clause-bytes
returns-clause-bytes g c = search rules
