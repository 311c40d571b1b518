use Rattle.std.proofs.Common.{sym, ap, ◌∙◌}
use Rattle.std.specs.Prelude.{is_ok}
use Rattle.datum_reading.specs.Reading.{datum_at}
use Rattle.avro_cells.proofs.FormLemmas.{form_reads, ok_cell}
use Rattle.avro_cells.proofs.form.take_known_cell.Goals as goal

pub take_known_form-requires-clause-known : goal.take_known_form-requires-clause-known
take_known_form-requires-clause-known c =
    let there = c.requires.known in
    ap is_ok (form_reads there.schema c.args.form there.form_is c.args.input.now c.args.at) ∙ ok_cell (datum_at there.schema c.args.input.now c.args.at) ∙ there.read

pub returns-clause-reads : goal.returns-clause-reads
returns-clause-reads c = λ schema is.
    sym (form_reads schema c.args.form is c.args.input.now c.args.at) ∙ c.take_known_form.ensures.exact
