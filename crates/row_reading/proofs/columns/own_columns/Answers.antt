use Rattle.std.proofs.lemmas.Result.{err_from_is_err_and}
use Rattle.words.specs.Laws.{refused_so}
use Rattle.stored_rows.specs.Refusal.{is_memory}
use Rattle.row_reading.proofs.OwnColumns.{columns_refused, columns_given}
use Rattle.row_reading.proofs.columns.own_columns.Goals as goal

pub returns-in_err-list : goal.returns-in_err-list
returns-in_err-list c =
    let p = err_from_is_err_and c.from_residual.result c.from_residual.ensures.1 in
    let e = c.in_err-list.field-0.0 in
    record { exact = rw (p.1, p.2) (refused_so (is_memory e) (columns_refused _ _ e c.fields_of.ensures) c.in_err-list.ensures.exact) }

pub returns : goal.returns
returns c = record { exact = columns_given _ _ c.in_ok-list.list.items c.checked.result c.fields_of.ensures c.in_ok-list.ensures.exact c.checked.ensures.exact }
