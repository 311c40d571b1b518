use Rattle.std.proofs.Common.{sym, ◌∙◌}
use Rattle.std.proofs.lemmas.Result.{err_from_is_err_and}
use Rattle.stored_rows.proofs.FieldLemmas.{wrong_kind, right_kind}
use Rattle.stored_rows.proofs.field.check_kinds.Goals as goal

pub returns-in_err-check_column : goal.returns-in_err-check_column
returns-in_err-check_column c =
    let p = err_from_is_err_and c.from_residual.result c.from_residual.ensures.1 in
    rw (p.1, p.2) (sym (wrong_kind c.args.fields.now c.args.columns.now c.loop-column.column-index c.column-item.result c.in_err-check_column.field-0.0 c.loop-column-test.true c.column-item.is (sym c.in_err-check_column.ensures)) ∙ c.loop-column.invariant)

pub loop-column-preserved : goal.loop-column-preserved
loop-column-preserved c = sym (right_kind c.args.fields.now c.args.columns.now c.loop-column.column-index c.column-item.result c.in_ok-check_column.field-0 c.loop-column-test.true c.column-item.is (sym c.in_ok-check_column.ensures)) ∙ c.loop-column.invariant
