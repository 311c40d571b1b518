use Rattle.avro_schema.proofs.Puts.{put_then, wrote_last}
use Rattle.avro_schema.proofs.printing.begin_values.Goals as goal

pub returns : goal.returns
returns c = put_then _ c.args.out.now c.begin_type.new.out c.key.new.self _ _ c.in_ok-begin_type.ensures (wrote_last _ _ _ _ c.key.ensures)
