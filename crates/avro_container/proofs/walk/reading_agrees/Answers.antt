use Rattle.avro_container.proofs.SpelledFile.{container_found, container_again}
use Rattle.avro_container.proofs.walk.reading_agrees.Goals as goal

pub returns-clause-found : goal.returns-clause-found
returns-clause-found c = container_found

pub returns-clause-only : goal.returns-clause-only
returns-clause-only c = container_again
