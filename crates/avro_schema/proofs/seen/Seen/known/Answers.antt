use Rattle.std.proofs.Common.{ap, ◌∙◌}
use Rattle.avro_schema.specs.Defined.{Seen, known_as}
use Rattle.avro_schema.proofs.SeenLaws.{known}
use Rattle.avro_schema.proofs.seen.Seen.known.Goals as goal

pub returns : goal.returns
returns c = c.get.ensures.value ∙ known c.self.inside.names c.args.name.now ∙ ap (λ (s : Seen). known_as s.names c.args.name.now) c.self.view_is
