use Rattle.avro_schema.proofs.SeenLaws.{put_met}
use Rattle.avro_schema.proofs.seen.Seen.put.Goals as goal

pub returns : goal.returns
returns c = record { ok = put_met c.args.self.now c.self.inside.names c.put_name.new.names c.self.inside.count c.in_ok-key.key c.args.name.now c.args.schema c.self.view_is c.in_ok-put_name.ensures.ok c.in_ok-key.ensures.ok }
