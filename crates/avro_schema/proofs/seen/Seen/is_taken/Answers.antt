use Rattle.std.proofs.Common.{is_some, ap, ◌∙◌}
use Rattle.avro_schema.specs.Defined.{Seen, is_taken}
use Rattle.avro_schema.proofs.SeenLaws.{known}
use Rattle.avro_schema.proofs.seen.Seen.is_taken.Goals as goal

pub returns : goal.returns
returns c = c.contains_key.ensures ∙ ap is_some (known c.self.inside.names c.args.name.now) ∙ ap (λ (s : Seen). is_taken s.names c.args.name.now) c.self.view_is
