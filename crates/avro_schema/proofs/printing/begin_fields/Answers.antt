use Rattle.avro_schema.proofs.Puts.{put_then, wrote_last}
use Rattle.avro_schema.proofs.printing.begin_fields.Goals as goal

pub returns : goal.returns
returns c = put_then _ c.args.out.now c.begin_named.new.out c.key.new.self _ _ c.in_ok-begin_named.ensures (wrote_last _ _ _ _ c.key.ensures)
