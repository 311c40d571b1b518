use Rattle.std.proofs.Common.{◌<◌, Ok, arith, sym, ap, ◌∙◌}
use Rattle.std.proofs.lemmas.Result.{err_from_is_err_and}
use Rattle.words.specs.Laws.{refused_so, refused_for_certain}
use Rattle.history_log.specs.Refusal.{is_memory}
use Rattle.history_log.proofs.RequestSteps.{paths_on, paths_done, paths_stopped, paths_refused}
use Rattle.history_log.proofs.request.take_paths.Goals as goal

pub returns-in_err-path : goal.returns-in_err-path
returns-in_err-path c =
    let p = err_from_is_err_and c.from_residual.result c.from_residual.ensures.1 in
    record { exact = rw (p.1, p.2) (refused_so (is_memory c.in_err-path.field-0.0) (λ h. paths_refused c.args.text.now c.args.place c.paths.paths c.paths.at c.in_err-path.field-0.0 c.paths.invariant.so_far c.paths.invariant.within h) c.in_err-path.ensures.exact) }

pub returns-in_err-next : goal.returns-in_err-next
returns-in_err-next c =
    let p = err_from_is_err_and c.from_residual-in_err-next.result c.from_residual-in_err-next.ensures.1 in
    record {
      exact = rw (p.1, p.2)
          (refused_for_certain (is_memory c.in_err-next.field-0.0)
          (paths_stopped c.args.text.now c.args.place c.paths.paths c.in_ok-path.path c.paths.at c.in_ok-path.after c.in_err-next.field-0.0
          c.paths.invariant.so_far c.paths.invariant.within c.in_ok-path.ensures.exact (sym c.in_err-next.ensures.exact)));
    }

pub returns-in_default : goal.returns-in_default
returns-in_default c =
    let end = sym c.in_ok-next.ensures.exact ∙ ap Ok c.in_default.is in
    let whole = paths_done c.args.text.now c.args.place c.paths.paths c.in_ok-path.path c.paths.at c.in_ok-path.after c.paths.invariant.so_far c.paths.invariant.within c.in_ok-path.ensures.exact end in
    record { exact = whole ∙ ap Ok (sym c.in_ok-push.ensures.ok ∙ sym c.into_list.ensures.value) }

pub paths-preserved : goal.paths-preserved
paths-preserved c =
    let next = sym c.in_ok-next.ensures.exact ∙ ap Ok c.in-Some.is in
    let within = rw c.in-Some.is at c.in_ok-next.ensures.within in
    let further : c.paths.at < c.in-Some.next = omega (arith, c.in_ok-path.ensures.within) in
    record {
      within = within.1;
      so_far = rw c.in_ok-push.ensures.ok (paths_on c.args.text.now c.args.place c.paths.paths c.in_ok-path.path c.paths.at c.in_ok-path.after c.in-Some.next c.paths.invariant.so_far c.paths.invariant.within c.in_ok-path.ensures.exact next further);
    }
