use Rattle.avro_container.specs.declared.container.Container.{Container}
use Rattle.avro_container.proofs.SpelledFile.{is_found, is_only}
use Rattle.avro_container.proofs.reading.read.Goals as goal

pub returns-clause-found : goal.returns-clause-found
returns-clause-found c = is_found (λ (container : Container). container) c.args.input.now c.container_of.result c.container_of.ensures.exact

pub returns-clause-only : goal.returns-clause-only
returns-clause-only c = λ container is few. is_only (λ (container : Container). container) c.args.input.now c.container_of.result c.container_of.ensures.exact container is few
