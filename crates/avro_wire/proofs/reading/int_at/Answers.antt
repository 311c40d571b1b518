use Rattle.std.proofs.Common.{rules}
use Rattle.avro_wire.specs.Reading.{number_at}
use Rattle.avro_wire.proofs.reading.int_at.Goals as goal

pub returns-in_err-groups-clause-exact : goal.returns-in_err-groups-clause-exact
unfolding number_at
returns-in_err-groups-clause-exact c = search rules

pub returns-clause-exact : goal.returns-clause-exact
unfolding number_at
returns-clause-exact c = search rules
