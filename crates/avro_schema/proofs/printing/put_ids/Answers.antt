use Rattle.avro_schema.proofs.Puts.{put_then}
use Rattle.avro_schema.proofs.printing.put_ids.Goals as goal

pub returns-clause-tokens : goal.returns-clause-tokens
returns-clause-tokens c = put_then _ c.args.out.now c.put_id.new.out c.put_id-2.new.out _ _ c.in_ok-put_id.ensures.tokens c.put_id-2.ensures.tokens
