use Rattle.std.proofs.lemmas.Result.{err_from_is_err_and}
use Rattle.words.specs.Laws.{refused_so}
use Rattle.history_log.specs.Refusal.{is_memory}
use Rattle.history_log.proofs.HistoryLemmas.{goes_on, fails, ends}
use Rattle.history_log.proofs.history.audited_from.Goals as goal

pub returns-in_err-state : goal.returns-in_err-state
returns-in_err-state c =
    let p = err_from_is_err_and c.from_residual.result c.from_residual.ensures.1 in
    rw (p.1, p.2) (refused_so (is_memory c.in_err-state.field-0.0) (λ step. fails c.args.entries.now c.loop-place.place c.index-entries-place.result c.loop-place.state _ c.in_err-state.field-0.0 c.loop-place-test.true c.index-entries-place.is step c.loop-place.invariant) c.in_err-state.ensures)

pub loop-place-preserved : goal.loop-place-preserved
loop-place-preserved c = goes_on c.args.entries.now c.loop-place.place c.index-entries-place.result c.loop-place.state c.in_ok-state.state _ c.loop-place-test.true c.index-entries-place.is c.in_ok-state.ensures c.loop-place.invariant

pub returns : goal.returns
returns c = ends c.args.entries.now c.loop-place.place c.loop-place.state _ c.loop-place-test.false c.loop-place.invariant
