use Rattle.std.proofs.Common.{sym, ap, ◌∙◌}
use Rattle.schema_tree.specs.declared.schema.Schema.TheVariants.{Fixed}
use Rattle.avro_schema.specs.Printing.{Written, written_of, written_field, written}
use Rattle.schema_tree.specs.Equations.{fold_fixed}
use Rattle.avro_schema.proofs.Puts.{put_then, wrote_then, wrote_last, puts_as}
use Rattle.avro_schema.proofs.printing.put_fixed.Goals as goal

pub returns : goal.returns
returns c =
    let same = ap (λ size. (written (Fixed c.args.name.now size)).tokens) (sym c.from.ensures) ∙ ap (λ (w : Written). w.tokens) (fold_fixed written_of written_field c.args.name.now c.from.result) in
    puts_as _ c.args.out.now c.end_object.new.self same
    (put_then _ c.args.out.now c.begin_named.new.out c.end_object.new.self _ _ c.in_ok-begin_named.ensures
    (wrote_then _ _ c.begin_named.new.out c.key.new.self c.end_object.new.self _ _ c.in_ok-key.ensures
    (wrote_then _ _ c.key.new.self c.u64.new.self c.end_object.new.self _ _ c.in_ok-u64.ensures (wrote_last _ _ _ _ c.end_object.ensures))))
