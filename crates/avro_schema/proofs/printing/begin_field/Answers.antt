use Rattle.avro_schema.proofs.Puts.{put_then, wrote_then, wrote_last}
use Rattle.avro_schema.proofs.printing.begin_field.Goals as goal

pub returns : goal.returns
returns c =
    wrote_then _ _ c.args.out.now c.begin_object.new.self c.key.new.self _ _ c.in_ok-begin_object.ensures
    (put_then _ c.begin_object.new.self c.put_text.new.out c.key.new.self _ _ c.in_ok-put_text.ensures (wrote_last _ _ _ _ c.key.ensures))
