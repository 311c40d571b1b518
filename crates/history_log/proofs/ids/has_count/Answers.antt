use Rattle.std.proofs.Common.{pos, sym, arith}
use Rattle.std.proofs.lemmas.Bool.{ne_eqb}
use Rattle.history_log.proofs.IdsLemmas.{next_count}
use Rattle.history_log.proofs.ids.has_count.Goals as goal

pub returns-then-ids-left : goal.returns-then-ids-left
returns-then-ids-left c =
    let next = next_count c.args.runs.now c.loop-run.run-index (record { first = pos 0; count = pos 0 }) c.loop-run-test.true in
    sym (ne_eqb _ _ (λ e. omega (arith, next, e, c.count_of-ids.ensures, c.loop-run.invariant)))

pub loop-run-preserved : goal.loop-run-preserved
loop-run-preserved c =
    let next = next_count c.args.runs.now c.loop-run.run-index (record { first = pos 0; count = pos 0 }) c.loop-run-test.true in
    omega (arith, next, c.count_of-ids.ensures, c.loop-run.invariant)
