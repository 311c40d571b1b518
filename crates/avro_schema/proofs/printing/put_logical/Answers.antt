use Rattle.avro_schema.proofs.Puts.{put_then, wrote_last}
use Rattle.avro_schema.proofs.printing.put_logical.Goals as goal

pub returns : goal.returns
returns c =
    put_then _ c.args.out.now c.begin_logical.new.out c.end_object.new.self _ _ c.in_ok-begin_logical.ensures
    (put_then _ c.begin_logical.new.out c.put_utc.new.out c.end_object.new.self _ _ c.in_ok-put_utc.ensures (wrote_last _ _ _ _ c.end_object.ensures))
