use Rattle.std.proofs.Common.{◌≡◌, sym, ◌∙◌}
use Rattle.std.specs.declared.option.Option.TheVariants.{Some}
use Rattle.avro_cells.specs.Form.{form_of}
use Rattle.fields.proofs.taking.take_field.Goals as goal

pub returns-in-Some-clause-exact : goal.returns-in-Some-clause-exact
returns-in-Some-clause-exact c =
    let is : form_of c.args.schema.now ≡ Some c.in-Some.form = sym c.requires.form ∙ c.in-Some.is in
    rw c.in-Some.is (c.take_cell.ensures.reads c.args.schema.now is)
