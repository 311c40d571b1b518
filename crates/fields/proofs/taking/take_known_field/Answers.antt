use Rattle.std.proofs.Common.{◌≡◌, sym, ◌∙◌}
use Rattle.std.specs.declared.option.Option.TheVariants.{Some}
use Rattle.datum_reading.specs.Reading.{datum_at}
use Rattle.avro_cells.specs.Form.{form_of}
use Rattle.fields.proofs.TakingLemmas.{null_known}
use Rattle.fields.proofs.taking.take_known_field.Goals as goal

pub take_known_cell-requires-clause-known : goal.take_known_cell-requires-clause-known
take_known_cell-requires-clause-known c = record {
  schema = c.args.schema.now;
  form_is = sym c.requires.form ∙ c.in-Some.is;
  read = c.requires.known;
}

pub returns-in-Some-clause-exact : goal.returns-in-Some-clause-exact
returns-in-Some-clause-exact c =
    let is : form_of c.args.schema.now ≡ Some c.in-Some.form = sym c.requires.form ∙ c.in-Some.is in
    rw c.in-Some.is (c.take_known_cell.ensures.reads c.args.schema.now is)

pub returns-in-None-clause-exact : goal.returns-in-None-clause-exact
returns-in-None-clause-exact c =
    rw c.in-None.is (null_known (datum_at c.args.schema.now c.args.input.now c.args.at) c.skip_known.result c.skip_known.ensures.exact)
