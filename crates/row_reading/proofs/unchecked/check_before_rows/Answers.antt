use Rattle.std.proofs.lemmas.Result.{err_from_is_err_and}
use Rattle.row_reading.proofs.CheckingLemmas.{fields_so, fields_refused, counts_answered}
use Rattle.row_reading.proofs.unchecked.check_before_rows.Goals as goal

pub returns-in_err-check_fields-clause-exact : goal.returns-in_err-check_fields-clause-exact
returns-in_err-check_fields-clause-exact c =
    let p = err_from_is_err_and c.from_residual.result c.from_residual.ensures.1 in
    let e = c.in_err-check_fields.field-0.0 in
    let columns = c.args.columns.now in
    let schema = c.args.schema.now in
    let wrong = fields_so columns schema c.fields_of.result.now _ c.fields_of.ensures c.in_err-check_fields.ensures in
    rw (p.1, p.2) (fields_refused columns schema c.args.walk.now.whole.blocks e wrong)

pub returns-in_err-check_counts-clause-exact : goal.returns-in_err-check_counts-clause-exact
returns-in_err-check_counts-clause-exact c =
    let p = err_from_is_err_and c.from_residual-in_err-check_counts.result c.from_residual-in_err-check_counts.ensures.1 in
    let columns = c.args.columns.now in
    let schema = c.args.schema.now in
    let right = fields_so columns schema c.fields_of.result.now _ c.fields_of.ensures c.in_ok-check_fields.ensures in
    rw (p.1, p.2) (counts_answered columns schema c.args.walk.now.whole.blocks _ _ right
    c.restart.ensures.start c.in_err-check_counts.ensures.exact)

pub returns-clause-exact : goal.returns-clause-exact
returns-clause-exact c =
    let columns = c.args.columns.now in
    let schema = c.args.schema.now in
    let right = fields_so columns schema c.fields_of.result.now _ c.fields_of.ensures c.in_ok-check_fields.ensures in
    counts_answered columns schema c.args.walk.now.whole.blocks _ _ right c.restart.ensures.start c.in_ok-check_counts.ensures.exact
