use Rattle.std.proofs.Common.{ap}
use Rattle.avro_schema.specs.Printing.{Written, written_of, written_field}
use Rattle.schema_tree.specs.Equations.{fold_enum}
use Rattle.avro_schema.proofs.Puts.{put_then, wrote_then, wrote_last, puts_as}
use Rattle.avro_schema.proofs.printing.put_enum.Goals as goal

pub returns : goal.returns
returns c =
    puts_as _ c.args.out.now c.end_object.new.self (ap (λ (w : Written). w.tokens) (fold_enum written_of written_field c.args.name.now c.args.symbols.now))
    (put_then _ c.args.out.now c.begin_named.new.out c.end_object.new.self _ _ c.in_ok-begin_named.ensures
    (wrote_then _ _ c.begin_named.new.out c.key.new.self c.end_object.new.self _ _ c.in_ok-key.ensures
    (put_then _ c.key.new.self c.put_texts.new.out c.end_object.new.self _ _ c.in_ok-put_texts.ensures (wrote_last _ _ _ _ c.end_object.ensures))))
