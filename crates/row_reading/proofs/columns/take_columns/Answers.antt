use Rattle.std.proofs.lemmas.Result.{err_from_is_err_and}
use Rattle.words.specs.Laws.{refused_so}
use Rattle.stored_rows.specs.Refusal.{is_memory}
use Rattle.row_reading.proofs.ColumnsLemmas.{field_refused}
use Rattle.row_reading.proofs.columns.take_columns.Goals as goal

pub returns-in_err-take_field : goal.returns-in_err-take_field
returns-in_err-take_field c =
    let p = err_from_is_err_and c.from_residual.result c.from_residual.ensures.1 in
    record {
      exact = rw (p.1, p.2) (refused_so (is_memory c.in_err-take_field.field-0.0) (λ h. field_refused c.args.fields.now
          c.loop-field.field-index c.field-item.result c.loop-field.columns.items c.in_err-take_field.field-0.0 _ c.loop-field-test.true
          c.field-item.is h c.loop-field.invariant) c.in_err-take_field.ensures.exact);
    }
