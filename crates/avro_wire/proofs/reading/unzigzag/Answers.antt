use Rattle.std.proofs.Common.{rules}
use Rattle.avro_wire.proofs.reading.unzigzag.Goals as goal

pub returns-else-groups-eq0 : goal.returns-else-groups-eq0
returns-else-groups-eq0 c = search rules
