use Rattle.report.proofs.FitsLemmas.{entry_more}
use Rattle.report.proofs.whole.HistoryTaker.take.Goals as goal

pub returns-clause-fits : goal.returns-clause-fits
returns-clause-fits c = λ columns fits entry_fits. entry_more columns c.args.self.entries c.push.new.self c.args.entry c.in_ok-push.ensures.ok entry_fits fits
