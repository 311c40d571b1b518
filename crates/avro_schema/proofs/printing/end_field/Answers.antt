use Rattle.avro_schema.proofs.Puts.{put_then}
use Rattle.avro_schema.proofs.printing.end_field.Goals as goal

pub returns-clause-tokens : goal.returns-clause-tokens
returns-clause-tokens c = put_then _ c.args.out.now c.put_default.new.out c.put_id.new.out _ _ c.in_ok-put_default.ensures c.put_id.ensures.tokens
