use Rattle.std.proofs.Common.{SFits, w64, rules}
use Rattle.std.proofs.lemmas.Int.{to_z-of_z}
use Rattle.history_log.proofs.RunsFits.{is_run}
use Rattle.history_log.proofs.runs.take_run.Goals as goal

pub returns-clause-fits : goal.returns-clause-fits
returns-clause-fits c =
    let first : SFits w64 c.in_ok-first.first = search rules in
    let count : SFits w64 c.in_ok-count.count = search rules in
    simp to_z-of_z (is_run (record { first = c.in_ok-first.first; count = c.in_ok-count.count }) first count c.in_ok-count.ensures.some)
