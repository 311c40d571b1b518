use Rattle.avro_cells.proofs.FormLemmas.{form_reads}
use Rattle.avro_cells.proofs.form.take_cell.Goals as goal

pub returns-clause-reads : goal.returns-clause-reads
returns-clause-reads c = λ schema is.
    rw (← form_reads schema c.args.form is c.args.input.now c.args.at) c.take_form.ensures.exact
