use Rattle.std.proofs.Common.{◌≡◌, true, false, Ok, Err, arith}
use Rattle.std.specs.Prelude.{slice_get}
use Rattle.std.proofs.lemmas.Result.{err_from_is_err_and}
use Rattle.words.specs.Laws.{refused_for_certain}
use Rattle.pieces.specs.Refusal.{is_memory}
use Rattle.pieces.specs.Word.{is_this}
use Rattle.pieces.specs.Number.{is_absent}
use Rattle.pieces.specs.WordLaws.{is_this_within}
use Rattle.history_log.specs.Runs.{run_at}
use Rattle.history_log.proofs.RunsLemmas.{run_behind, no_runs, runs_begin, runs_on, runs_done, runs_refused}
use Rattle.history_log.proofs.RunsLemmas.{absent_within}
use Rattle.history_log.proofs.RunsFits.{more_runs}
use Rattle.history_log.proofs.runs.take_runs.Goals as goal

pub returns-then-is_absent-clause-exact : goal.returns-then-is_absent-clause-exact
returns-then-is_absent-clause-exact c =
    let absent : is_absent c.args.text.now c.args.place ≡ true = cc in
    rw c.new.ensures (no_runs c.args.text.now c.args.place absent)

pub returns-then-is_absent-clause-within : goal.returns-then-is_absent-clause-within
returns-then-is_absent-clause-within c =
    let absent : is_absent c.args.text.now c.args.place ≡ true = cc in
    let inside = absent_within c.args.text.now c.args.place absent in
    (omega arith, omega arith)

pub loop-runs-init : goal.loop-runs-init
loop-runs-init c =
    let there : is_absent c.args.text.now c.args.place ≡ false = cc in
    record {
      start = omega arith;
      within = c.requires;
      fits = rw c.new-runs.ensures tt;
      so_far = rw c.new-runs.ensures (runs_begin c.args.text.now c.args.place there);
    }

pub returns-in_err-run-clause-exact : goal.returns-in_err-run-clause-exact
returns-in_err-run-clause-exact c =
    let p = err_from_is_err_and c.from_residual.result c.from_residual.ensures.1 in
    let one : run_at c.args.text.now c.loop-runs.runs c.loop-runs.at ≡ Err c.in_err-run.field-0.0 = run_behind c.args.text.now c.as_slice.result.now c.loop-runs.runs c.loop-runs.at _ c.as_slice.ensures c.in_err-run.ensures.exact in
    rw (p.1, p.2) (refused_for_certain (is_memory c.in_err-run.field-0.0) (runs_refused c.args.text.now c.loop-runs.runs c.loop-runs.at c.in_err-run.field-0.0 _ c.loop-runs.invariant.so_far c.loop-runs.invariant.within one))

pub returns-then-not-stands-clause-exact : goal.returns-then-not-stands-clause-exact
returns-then-not-stands-clause-exact c =
    let one : run_at c.args.text.now c.loop-runs.runs c.loop-runs.at ≡ Ok (c.in_ok-run.run', c.in_ok-run.after) = run_behind c.args.text.now c.as_slice.result.now c.loop-runs.runs c.loop-runs.at _ c.as_slice.ensures c.in_ok-run.ensures.exact in
    let stop : is_this 44 (slice_get c.args.text.now c.in_ok-run.after) ≡ false = cc in
    rw c.in_ok-push.ensures.ok (runs_done c.args.text.now c.loop-runs.runs c.loop-runs.at c.in_ok-run.after c.in_ok-run.run' _ c.loop-runs.invariant.so_far c.loop-runs.invariant.within one stop)

pub loop-runs-preserved : goal.loop-runs-preserved
loop-runs-preserved c =
    let one : run_at c.args.text.now c.loop-runs.runs c.loop-runs.at ≡ Ok (c.in_ok-run.run', c.in_ok-run.after) = run_behind c.args.text.now c.as_slice.result.now c.loop-runs.runs c.loop-runs.at _ c.as_slice.ensures c.in_ok-run.ensures.exact in
    let comma : is_this 44 (slice_get c.args.text.now c.in_ok-run.after) ≡ true = cc in
    let inside = is_this_within 44 c.args.text.now c.in_ok-run.after comma in
    record {
      start = omega (arith, c.loop-runs.invariant.start, c.in_ok-run.ensures.within);
      within = omega arith;
      fits = more_runs c.loop-runs.runs c.as_slice.result.now c.push.new.self c.in_ok-run.run' c.loop-runs.invariant.fits c.as_slice.ensures c.in_ok-run.ensures.fits c.in_ok-run.ensures.apart c.in_ok-push.ensures.ok;
      so_far = rw c.in_ok-push.ensures.ok (runs_on c.args.text.now c.loop-runs.runs c.loop-runs.at c.in_ok-run.after c.in_ok-run.run' _ c.loop-runs.invariant.so_far c.loop-runs.invariant.within c.in_ok-run.ensures.within.0 one comma);
    }

pub returns-then-not-stands-clause-fits : goal.returns-then-not-stands-clause-fits
returns-then-not-stands-clause-fits c = more_runs c.loop-runs.runs c.as_slice.result.now c.push.new.self c.in_ok-run.run' c.loop-runs.invariant.fits c.as_slice.ensures c.in_ok-run.ensures.fits c.in_ok-run.ensures.apart c.in_ok-push.ensures.ok
