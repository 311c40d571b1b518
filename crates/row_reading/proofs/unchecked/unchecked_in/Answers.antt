use Rattle.std.proofs.Common.{◌∙◌}
use Rattle.std.proofs.lemmas.Result.{err_from_is_err_and}
use Rattle.words.specs.Laws.{refused_for_certain}
use Rattle.stored_rows.specs.Refusal.{is_memory}
use Rattle.row_reading.proofs.CheckingLemmas.{before_refused, opened_given}
use Rattle.row_reading.proofs.unchecked.unchecked_in.Goals as goal

pub returns-in_err-told_rows-clause-exact : goal.returns-in_err-told_rows-clause-exact
returns-in_err-told_rows-clause-exact c =
    let p = err_from_is_err_and c.from_residual.result c.from_residual.ensures.1 in
    let e = c.in_err-told_rows.field-0.0 in
    let refused = before_refused c.args.columns.now c.args.walk.whole c.args.schema e c.in_err-told_rows.ensures.exact in
    rw (p.1, p.2) (refused_for_certain (is_memory e) refused)

pub returns-clause-exact : goal.returns-clause-exact
returns-clause-exact c =
    let rows = c.in_ok-rows.rows in
    let whole = c.in_ok-rows.ensures.whole ∙ (c.restart.ensures.whole ∙ c.in_ok-told_rows.ensures.whole) in
    opened_given c.args.columns.now c.args.walk.whole rows.rest.walk.whole c.args.schema c.in_ok-layout.layout rows.reader.layout rows.rest
    c.in_ok-told_rows.ensures.exact c.in_ok-layout.ensures.schema c.in_ok-layout.ensures.wanted c.in_ok-rows.ensures.layout whole
    c.in_ok-rows.ensures.left
