use Rattle.avro_schema.proofs.Puts.{put_then}
use Rattle.avro_schema.proofs.printing.begin_logical.Goals as goal

pub returns : goal.returns
returns c = put_then _ c.args.out.now c.begin_type.new.out c.put_text.new.out _ _ c.in_ok-begin_type.ensures c.put_text.ensures
