use Rattle.avro_container.specs.Container.{Walked}
use Rattle.avro_container.proofs.SpelledFile.{is_found, is_only}
use Rattle.avro_container.proofs.FewBlocks.{are_few}
use Rattle.avro_container.proofs.walk.open_walk.Goals as goal

pub returns-clause-found : goal.returns-clause-found
returns-clause-found c = is_found (λ (walk : Walked). walk.whole) c.args.input.now c.walk_of.result c.walk_of.ensures.exact

pub returns-clause-only : goal.returns-clause-only
returns-clause-only c = λ container is few.
    is_only (λ (walk : Walked). walk.whole) c.args.input.now c.walk_of.result c.walk_of.ensures.exact container is few

pub returns-clause-few : goal.returns-clause-few
returns-clause-few c = are_few (λ (walk : Walked). walk.whole) c.args.input.now c.walk_of.result c.walk_of.ensures.exact
