use Rattle.std.proofs.Common.{◌≡◌, rules}
use Rattle.std.specs.declared.option.Option.TheVariants.{None}
use Rattle.avro_cells.specs.Form.{form_of}
use Rattle.fields.proofs.AlikeLaws.{none_form, reads_passed}
use Rattle.fields.proofs.leaf.own_type.Goals as goal

pub returns : goal.returns
returns c =
    let mine : form_of c.in_ok-compact.compact ≡ None = none_form (form_of c.in_ok-compact.compact) (search rules) in
    let other : form_of c.args.schema.now ≡ None = none_form (form_of c.args.schema.now) (search rules) in
    reads_passed c.in_ok-compact.compact c.args.schema.now mine other c.in_ok-compact.ensures
