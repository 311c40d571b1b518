use Rattle.std.proofs.Common.{◌<◌, Ok, arith, sym, ap, ◌∙◌}
use Rattle.std.proofs.lemmas.Result.{err_from_is_err_and}
use Rattle.words.specs.Laws.{refused_for_certain}
use Rattle.history_log.specs.Refusal.{is_memory}
use Rattle.history_log.proofs.RequestSteps.{rows_on, rows_done, rows_stopped, rows_refused}
use Rattle.history_log.proofs.request.take_rows.Goals as goal

pub returns-in_err-cells : goal.returns-in_err-cells
returns-in_err-cells c =
    let p = err_from_is_err_and c.from_residual.result c.from_residual.ensures.1 in
    record { exact = rw (p.1, p.2) (rows_refused c.args.columns.now c.args.text.now c.args.place c.rows.rows c.rows.at c.in_err-cells.field-0.0 c.rows.invariant.so_far c.rows.invariant.within c.in_err-cells.ensures.exact) }

pub returns-in_err-next : goal.returns-in_err-next
returns-in_err-next c =
    let p = err_from_is_err_and c.from_residual-in_err-next.result c.from_residual-in_err-next.ensures.1 in
    record {
      exact = rw (p.1, p.2)
          (refused_for_certain (is_memory c.in_err-next.field-0.0)
          (rows_stopped c.args.columns.now c.args.text.now c.args.place c.rows.rows c.in_ok-cells.cells c.rows.at c.in_ok-cells.after c.in_err-next.field-0.0
          c.rows.invariant.so_far c.rows.invariant.within c.in_ok-cells.ensures.exact (sym c.in_err-next.ensures.exact)));
    }

pub returns-in_default : goal.returns-in_default
returns-in_default c =
    let end = sym c.in_ok-next.ensures.exact ∙ ap Ok c.in_default.is in
    record { exact = rw c.in_ok-push.ensures.ok (rows_done c.args.columns.now c.args.text.now c.args.place c.rows.rows c.in_ok-cells.cells c.rows.at c.in_ok-cells.after c.rows.invariant.so_far c.rows.invariant.within c.in_ok-cells.ensures.exact end) }

pub rows-preserved : goal.rows-preserved
rows-preserved c =
    let next = sym c.in_ok-next.ensures.exact ∙ ap Ok c.in-Some.is in
    let within = rw c.in-Some.is at c.in_ok-next.ensures.within in
    let further : c.rows.at < c.in-Some.next = omega (arith, c.in_ok-cells.ensures.within) in
    record {
      within = within.1;
      so_far = rw c.in_ok-push.ensures.ok (rows_on c.args.columns.now c.args.text.now c.args.place c.rows.rows c.in_ok-cells.cells c.rows.at c.in_ok-cells.after c.in-Some.next c.rows.invariant.so_far c.rows.invariant.within c.in_ok-cells.ensures.exact next further);
    }
